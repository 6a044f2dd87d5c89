-- A list cut into chunks of one length, and one of them.
use mathlib.Core.List.{List}
use mathlib.Core.Path.{◌∙◌, ◌≡◌, ap}
use Prim.Native.Nat.{◌*◌, ◌+◌, ◌<◌, suc, zero, ℕ}
use native.Mathlib.Omega.{arith}
use lib.ListN.{drop, get_or, take}
use Rattle.std.specs.Simd.{first_chunks}
use Rattle.std.proofs.lemmas.List.{drop-drop}

-- chunk k of the first c, each of n numbers
pub chunk_at : (n c k : ℕ) (list : List ℕ) (none : List ℕ) → k < c → get_or (first_chunks n c list) k none ≡ take n (drop (n * k) list)
chunk_at n zero k list none l = absurd (omega arith)
chunk_at n (suc c) zero list none l = let e : n * 0 ≡ 0 = omega arith in rw e
chunk_at n (suc c) (suc k) list none l =
    let e : n + n * k ≡ n * suc k = omega arith in
    chunk_at n c k (drop n list) none (omega arith) ∙ ap (take n) (drop-drop (n * k) n list ∙ ap (λ (i : ℕ). drop i list) e)
