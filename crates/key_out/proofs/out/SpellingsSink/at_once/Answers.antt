-- Each of the three rows, by its word.
use mathlib.Core.Path.{sym, ap, ◌∙◌, subst}
use Prim.Native.Nat.{ℕ, ◌+◌, ◌/◌, ◌%◌}
use native.Mathlib.Omega.{arith}
use Rattle.keys.specs.Bits.{bits_of}
use Rattle.keys.specs.Limits.{newest, count_width}
use Rattle.keys.specs.Holds.{child_at, Spells, cursor, HoldsBy}
use Rattle.fields.specs.Put.{Put}
use Rattle.fields.proofs.PutLaws.{put_none}
use Rattle.node_table.specs.Forms.{grammar_of, table_words}
use Rattle.node_table.proofs.FormsLaws.{words_are}
use Rattle.key_out.proofs.OnceLaws.{reference_run, string_run, named_put, keyword_put, once_type, once_keyword, of_class}
use Rattle.key_out.proofs.out.SpellingsSink.at_once.Goals as goal

pub returns-then-word-eq-ONE_NAME : goal.returns-then-word-eq-ONE_NAME
returns-then-word-eq-ONE_NAME c =
    λ known N left at w.
    let P = Spells c.args.self.names.now c.args.self.text.now in
    of_class (once_type c.args._class c.args.word known).0
    (named_put (grammar_of (table_words count_width)) (words_are newest) N c.args.self.names.now c.args.self.text.now left c.args.depth at c.args.o.name c.args.o.to c.args.key.now
    (λ a o h. reference_run N P (child_at N at) c.args.o.name a o (subst (λ (x : ℕ). HoldsBy N P a (cursor x (child_at N at) c.args.o.name)) (w ∙ c.if-word-eq-ONE_NAME.true) h))
    c.put_number-to.ensures c.name-p.ensures c.put_number-to-then-word-eq-ONE_NAME.ensures)

pub returns-then-word-eq-STRING : goal.returns-then-word-eq-STRING
returns-then-word-eq-STRING c =
    λ known N left at w.
    let P = Spells c.args.self.names.now c.args.self.text.now in
    of_class (once_type c.args._class c.args.word known).0
    (named_put (grammar_of (table_words count_width)) (words_are newest) N c.args.self.names.now c.args.self.text.now left c.args.depth at c.args.o.name c.args.o.to c.args.key.now
    (λ a o h. string_run N P (child_at N at) c.args.o.name a o (subst (λ (x : ℕ). HoldsBy N P a (cursor x (child_at N at) c.args.o.name)) (w ∙ c.if-word-eq-STRING.true) h))
    c.put_number-to-then-word-eq-STRING.ensures c.name.ensures (put_none _ _ c.name.ensures.stays (omega (arith, c.name.ensures.short, c.name.ensures.same))))

pub returns : goal.returns
returns c =
    λ known N left at w.
    let t = once_type c.args._class c.args.word known in
    of_class t.0
    (keyword_put (grammar_of (table_words count_width)) (words_are newest) N c.args.self.names.now c.args.self.text.now left c.args.depth at c.args.o.name c.args.o.to c.args.key.now
    (ap (λ (x : ℕ). x % 64) w ∙ once_keyword c.args.word c.if-word-eq-ONE_NAME.false c.if-word-eq-STRING.false t.1) c.requires.1
    (subst (λ (x : ℕ). Put c.args.o.to (bits_of 10 (32 + x / 64 % 16)) c.put_number-to-2.result c.args.key.now c.put_number-to-2.new.key) (sym w) c.put_number-to-2.ensures))
