-- Numbers that a loop fills from the front, one store a turn.
use mathlib.Core.List.{List}
use mathlib.Core.Path.{◌∙◌, ◌≡◌, ap}
use Prim.Native.Nat.{◌+◌, ◌<◌, ℕ}
use lib.ListN.{get_or, length, length-set, set}
use Rattle.gf2.proofs.Table.{Filled, filled_next}

module _ (out out' : List ℕ) (p x : ℕ) (put : out' ≡ set out p x) where
  pub put_long : length out' ≡ length out
  put_long = ap length put ∙ length-set out p x

  pub put_filled : (v : List ℕ) → p < length out → Filled out v p → x ≡ get_or v p 0 → Filled out' v (p + 1)
  put_filled v h f e = rw put (filled_next out v p x h f e)
