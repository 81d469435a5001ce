-- The eight words by which an answer is told.
use Rattle.std.specs.Prelude.{List, [], ◌∷◌, ℕ}
use Rattle.keys.specs.Store as store
use Rattle.rules.specs.Read as rules
use Rattle.differs.specs.Differ as differs

-- Of a reading: 0, nodes, names, diagnostics, bytes of key, the end's token and half, and type rules entered; or a refusal's number, token, half and byte. Then zeros.
abbrev pub told : rules.Answer → List ℕ
told (rules.reads nodes names notes at half key entered) = 0 ∷ nodes ∷ names ∷ notes ∷ key ∷ at ∷ half ∷ entered ∷ []
told (rules.refuses number token half byte) = number ∷ token ∷ half ∷ byte ∷ 0 ∷ 0 ∷ 0 ∷ 0 ∷ []

-- Of a key taken back: 0, nodes, names and bytes of text; or a refusal's number and bit. Then zeros.
abbrev pub told_back : store.Answer → List ℕ
told_back (store.back nodes names letters) = 0 ∷ nodes ∷ names ∷ letters ∷ 0 ∷ 0 ∷ 0 ∷ 0 ∷ []
told_back (store.no number place) = number ∷ place ∷ 0 ∷ 0 ∷ 0 ∷ 0 ∷ 0 ∷ 0 ∷ []

-- Of two keys compared: 0 and the number of pairs; or a refusal's number, side and bit. Then zeros.
abbrev pub told_difference : differs.Answer → List ℕ
told_difference (differs.found pairs) = 0 ∷ pairs ∷ 0 ∷ 0 ∷ 0 ∷ 0 ∷ 0 ∷ 0 ∷ []
told_difference (differs.no number side bit) = number ∷ side ∷ bit ∷ 0 ∷ 0 ∷ 0 ∷ 0 ∷ 0 ∷ []
