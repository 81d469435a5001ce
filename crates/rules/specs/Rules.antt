-- Computing with all rules at once.
use Rattle.rules.specs.State.{make}
use Rattle.rules.specs.TypeRule.{conditional, union_or_conditional, type}
use Rattle.rules.specs.Function.{parameter, parameters_from, this_first, parameters, return_type, function_node, function}
use Rattle.rules.specs.TypeParameters.{type_parameter, type_parameters}
use Rattle.rules.specs.Union.{parts_from, joined, intersection, union}
use Rattle.rules.specs.Operator.{operand, operator_from, operator}
use Rattle.rules.specs.Infer.{trial, infer}
use Rattle.rules.specs.Postfix.{bracketed, suffix, postfix_from, postfix}
use Rattle.rules.specs.Primary.{keyword, literal, negative, this, assertion, query, curly, brackets, reference, enclosed, worded, primary}
use Rattle.rules.specs.Names.{name, binding_word, bound, dots_from, dotted}
use Rattle.rules.specs.Arguments.{arguments, named, import_from, import_type}
use Rattle.rules.specs.Mapped.{modifier, mapped}
use Rattle.rules.specs.Object.{signature, index_type, index_parameter, index_from, index, property, with_key, behind_readonly, member as objectMember, members_from, object}
use Rattle.rules.specs.Tuple.{member_node, member, rest_of, labelled_element, element, checked_element, tuple}
use Rattle.rules.specs.Template.{pieces_from, pieces, template}
use Rattle.rules.specs.List.{list_from, list}
use Rattle.rules.specs.Reading.{read_type, reading}

-- names all rules, so that what unfolds this computes with them
unfoldable pub rules : Unit {0}
unfolding make conditional union_or_conditional type parameter parameters_from this_first parameters return_type function_node function type_parameter type_parameters parts_from joined intersection union operand operator_from operator trial infer bracketed suffix postfix_from postfix keyword literal negative this assertion query curly brackets reference enclosed worded primary name binding_word bound dots_from dotted arguments named import_from import_type modifier mapped signature index_type index_parameter index_from index property with_key behind_readonly objectMember members_from object member_node member rest_of labelled_element element checked_element tuple pieces_from pieces template list_from list read_type reading
rules = tt
