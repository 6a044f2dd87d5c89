-- Where the lists of coefficients keep what: place i for a wire, N j + i for two, N N k + N j + i for three.
use mathlib.Core.List.{List}
use mathlib.Core.Path.{sym, ◌∙◌, ◌≡◌}
use Prim.Native.Nat.{◌%◌, ◌*◌, ◌+◌, ◌/◌, ◌<◌, ℕ, ◌≤◌}
use native.Mathlib.Nat.{mul_comm, mul-le-mul_left, mul-suc}
use native.Mathlib.Omega.{arith}
use lib.Arith.{digits_div, digits_mod}
use lib.ListN.{get_or, length}
use lib.Seq.{ext_get_or}
use borrow.Author.Tests.{lt-ltb}
use Rattle.gf2.proofs.Table.{get_d_tabulate, length-tabulate}
use Rattle.phase.specs.Coefficients.{c, l, q}
use Rattle.weights.specs.Lists.{Degree, One, Three, Two, c_list, entry_of, l_list, list_of, q_list, size_of}

-- ---- lengths, and the entry at each place

module _ (N n : ℕ) (w : List ℕ) (of : Degree) where
  pub length-list : length (list_of N n w of) ≡ size_of N of
  unfolding list_of
  length-list = length-tabulate (size_of N of) (entry_of N n w of)

  pub list_at : (p : ℕ) → p < size_of N of → entry_of N n w of p ≡ get_or (list_of N n w of) p 0
  unfolding list_of
  list_at p h = sym (get_d_tabulate (size_of N of) (entry_of N n w of) p h)

  pub list_filled : (out : List ℕ) → length out ≡ size_of N of → ((p : ℕ) → p < length out → get_or out p 0 ≡ entry_of N n w of p)
      → out ≡ list_of N n w of
  list_filled out e f = ext_get_or 0 out (list_of N n w of) (e ∙ sym length-list) (λ p h. f p h ∙ list_at p (omega arith))

-- ---- the place of two wires, and of three

module _ (N i j : ℕ) (hi : i < N) where
  first_wire : (N * j + i) % N ≡ i
  first_wire = rw (mul_comm N j) (digits_mod j hi)

  second_wire : (N * j + i) / N ≡ j
  second_wire = rw (mul_comm N j) (digits_div j hi)

  place_lt : (M : ℕ) → j < M → N * j + i < N * M
  place_lt M hj = omega (arith, mul-le-mul_left N hj, mul-suc N j)

-- ---- the coefficients, for wires in order below n

module _ (N n : ℕ) (w : List ℕ) (fit : n ≤ N) where
  pub l_place : (i : ℕ) → i < n → get_or (l_list N n w) i 0 ≡ l w i
  l_place i h = sym (list_at N n w One i (omega arith)) ∙ simp (lt-ltb i n h)

  pub q_place : (i j : ℕ) → i < j → j < n → get_or (q_list N n w) (N * j + i) 0 ≡ q w i j
  q_place i j h g =
      let hi : i < N = omega arith in
      sym (list_at N n w Two (N * j + i) (place_lt N i j hi N (omega arith)))
      ∙ rw (first_wire N i j hi, second_wire N i j hi) (simp (lt-ltb i j h, lt-ltb j n g))

  pub c_place : (i j k : ℕ) → i < j → j < k → k < n → get_or (c_list N n w) (N * N * k + (N * j + i)) 0 ≡ c w i j k
  c_place i j k h g f =
      let hi : i < N = omega arith in
      let low : N * j + i < N * N = place_lt N i j hi N (omega arith) in
      let inside : N * N * k + (N * j + i) < N * (N * N) = rw (mul_comm N (N * N)) (place_lt (N * N) (N * j + i) k low N (omega arith)) in
      let apart : N * N * k + (N * j + i) ≡ N * (N * k + j) + i = omega arith in
      let first : (N * N * k + (N * j + i)) % N ≡ i = rw apart (first_wire N i (N * k + j) hi) in
      let second : (N * N * k + (N * j + i)) / N % N ≡ j = rw (apart, second_wire N i (N * k + j) hi) (first_wire N j k (omega arith)) in
      sym (list_at N n w Three (N * N * k + (N * j + i)) inside)
      ∙ rw (first, second, second_wire (N * N) (N * j + i) k low) (simp (lt-ltb i j h, lt-ltb j k g, lt-ltb k n f))
