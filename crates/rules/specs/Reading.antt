-- The rules tied together (01, "Reading rules"; "Refusal numbers": 5).
use Rattle.std.specs.Prelude.{ℕ, zero, suc, true}
use Rattle.words.specs.Limits.{most_open}
use Rattle.keys.specs.Placed.{Placed}
use Rattle.rules.specs.Refusal.{too_deep}
use Rattle.rules.specs.State.{Given, Result, Reader, refused, begin, entering}
use Rattle.rules.specs.TypeRule.{type}

-- a type, where n type rules may still open: it is counted, and every rule below it takes the reader of types that is one type rule deeper
unfoldable pub read_type : Given → ℕ → Reader
read_type g zero on s = refused too_deep s
read_type g (suc n) on s = type g (read_type g n) on (entering s)

-- a reading from token i on: conditionals start on
unfoldable pub reading : Given → ℕ → Result Placed
reading g i = read_type g most_open true (begin i)
