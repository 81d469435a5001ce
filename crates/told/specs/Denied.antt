-- What is told by words, its refusals by any number.
use Rattle.std.specs.Prelude.{Result, Ok, Err, ℕ}
use Rattle.words.specs.Refusal.{number_of}
use Rattle.keys.specs.Store as store
use Rattle.rules.specs.Read as rules
use Rattle.differs.specs.Differ as differs
use Rattle.answers.specs.Reading as reading
use Rattle.answers.specs.declared.reading.Counts.{Counts}
use Rattle.answers.specs.declared.reading.Refused.{Refused}
use Rattle.taking_back.specs.Call as taking
use Rattle.taking_back.specs.declared.call.Used.{Used}
use Rattle.key_parts.specs.declared.refusal.Stop.{Stop}
use Rattle.comparing.specs.Call as difference
use Rattle.comparing.specs.Call.{side_of}
use Rattle.comparing.specs.declared.differ.Undiffered.{Undiffered}
use Rattle.told.specs.declared.answer.Denied.{Denied}
use Rattle.told.specs.declared.answer.DeniedBack.{DeniedBack}
use Rattle.told.specs.declared.answer.DeniedDifference.{DeniedDifference}

-- A reading's refusal by its number.
abbrev pub denied_by : Refused → Denied
denied_by r = record { number = number_of r.why; token = r.token; half = r.half; byte = r.byte }

-- A reading's answer in the words of the definitions, where a refusal's number is any.
abbrev pub answer_by : Result Counts Denied → rules.Answer
answer_by (Ok c) = reading.answer_of (Ok c)
answer_by (Err d) = rules.refuses d.number d.token d.half d.byte

-- That of taking back by its number.
abbrev pub back_by : Stop → DeniedBack
back_by n = record { number = number_of n.why; bit = n.bit }

-- The answer of taking back, where a refusal's number is any.
abbrev pub answer_back_by : Result Used DeniedBack → store.Answer
answer_back_by (Ok u) = taking.answer_of (Ok u)
answer_back_by (Err d) = store.no d.number d.bit

-- That of two keys by its number and that of its side.
abbrev pub difference_by : Undiffered → DeniedDifference
difference_by u = record { number = number_of u.why; side = side_of u.side; bit = u.bit }

-- The answer to two keys, where the numbers of a refusal and its side are any.
abbrev pub answer_difference_by : Result ℕ DeniedDifference → differs.Answer
answer_difference_by (Ok n) = difference.answer_of (Ok n)
answer_difference_by (Err d) = differs.no d.number d.side d.bit
