-- An equation on bits, decided by computing it at every value.
use mathlib.Core.Bool.{◌&&◌, Bool, false, true}
use mathlib.Core.Logic.{◌↔◌}
use mathlib.Core.Path.{◌≡◌}
use Prim.Native.Nat.{◌<◌, suc, zero, ℕ}
use native.Mathlib.Omega.{arith}
use lib.Dec.{T, eqb, eqb→eq}

-- two tests hold together where each does
pub T-both : (a b : Bool) → T (a && b) ↔ (T a × T b)
T-both true b = (λ t. (tt, t), λ t. t.1)
T-both false b = (λ t. absurd t, λ t. t.0)

-- the test holds at 0 and at 1
abbrev pub all2 : (ℕ → Bool) → Bool
all2 f = f 0 && f 1

pub all2_at : (f : ℕ → Bool) → T (all2 f) → (x : ℕ) → x < 2 → T (f x)
all2_at f t zero h = ((T-both (f 0) (f 1)).0 t).0
all2_at f t (suc zero) h = ((T-both (f 0) (f 1)).0 t).1
all2_at f t (suc (suc x)) h = absurd (omega arith)

pub brute2 : (f g : ℕ → ℕ → ℕ) → T (all2 (λ a. all2 (λ b. eqb (f a b) (g a b)))) → (a b : ℕ) → a < 2 → b < 2 → f a b ≡ g a b
brute2 f g t a b ha hb =
    eqb→eq (f a b) (g a b) (all2_at (λ b. eqb (f a b) (g a b)) (all2_at (λ a. all2 (λ b. eqb (f a b) (g a b))) t a ha) b hb)

pub brute3 : (f g : ℕ → ℕ → ℕ → ℕ) → T (all2 (λ a. all2 (λ b. all2 (λ c. eqb (f a b c) (g a b c)))))
    → (a b c : ℕ) → a < 2 → b < 2 → c < 2 → f a b c ≡ g a b c
brute3 f g t a b c ha hb hc =
    eqb→eq (f a b c) (g a b c)
    (all2_at (λ c. eqb (f a b c) (g a b c))
    (all2_at (λ b. all2 (λ c. eqb (f a b c) (g a b c))) (all2_at (λ a. all2 (λ b. all2 (λ c. eqb (f a b c) (g a b c)))) t a ha) b hb) c hc)

pub brute6 : (f g : ℕ → ℕ → ℕ → ℕ → ℕ → ℕ → ℕ)
    → T (all2 (λ a. all2 (λ b. all2 (λ c. all2 (λ p. all2 (λ q. all2 (λ r. eqb (f a b c p q r) (g a b c p q r))))))))
    → (a b c p q r : ℕ) → a < 2 → b < 2 → c < 2 → p < 2 → q < 2 → r < 2 → f a b c p q r ≡ g a b c p q r
brute6 f g t a b c p q r ha hb hc hp hq hr =
    brute3 (f a b c) (g a b c)
    (all2_at (λ c. F a b c)
    (all2_at (λ b. all2 (λ c. F a b c)) (all2_at (λ a. all2 (λ b. all2 (λ c. F a b c))) t a ha) b hb) c hc) p q r hp hq hr
  where
    F : ℕ → ℕ → ℕ → Bool
    F a b c = all2 (λ p. all2 (λ q. all2 (λ r. eqb (f a b c p q r) (g a b c p q r))))

pub brute7 : (f g : ℕ → ℕ → ℕ → ℕ → ℕ → ℕ → ℕ → ℕ)
    → T (all2 (λ s. all2 (λ a. all2 (λ b. all2 (λ c. all2 (λ p. all2 (λ q. all2 (λ r. eqb (f s a b c p q r) (g s a b c p q r)))))))))
    → (s a b c p q r : ℕ) → s < 2 → a < 2 → b < 2 → c < 2 → p < 2 → q < 2 → r < 2 → f s a b c p q r ≡ g s a b c p q r
brute7 f g t s a b c p q r hs = brute6 (f s) (g s) (all2_at F t s hs) a b c p q r
  where
    F : ℕ → Bool
    F s = all2 (λ a. all2 (λ b. all2 (λ c. all2 (λ p. all2 (λ q. all2 (λ r. eqb (f s a b c p q r) (g s a b c p q r)))))))
