-- The coefficients of weights as lists, for wires i < j < k below n; N is the most wires that a list has room for.
use Rattle.std.specs.Prelude.{List, ◌≡◌, ◌%◌, ◌*◌, ◌/◌, ℕ, ltb}
use Rattle.circuit.specs.Limits.{max_wires}
use Rattle.circuit.specs.Read.{either}
use Rattle.gf2.specs.Table.{tabulate}
use Rattle.phase.specs.Coefficients.{c, l, q}

-- l(i) below n, 0 from there on
abbrev pub l_entry : ℕ → List ℕ → ℕ → ℕ
l_entry n w i = either (ltb i n) (l w i) 0

-- q(i, j) where i < j < n, else 0
abbrev pub q_entry : ℕ → List ℕ → ℕ → ℕ → ℕ
q_entry n w i j = either (ltb i j) (either (ltb j n) (q w i j) 0) 0

-- c(i, j, k) where i < j < k < n, else 0
abbrev pub c_entry : ℕ → List ℕ → ℕ → ℕ → ℕ → ℕ
c_entry n w i j k = either (ltb i j) (either (ltb j k) (either (ltb k n) (c w i j k) 0) 0) 0

-- how many wires a coefficient is of: l is of one, q of two, c of three
pub data Degree : Type 0 where
  One : Degree
  Two : Degree
  Three : Degree

-- ---- the list of the coefficients of one wire, of two, or of three

-- its length: a place for each wire, each two, each three
abbrev pub size_of : ℕ → Degree → ℕ
size_of N One = N
size_of N Two = N * N
size_of N Three = N * (N * N)

-- what stands at p: l(i) at i, q(i, j) at N j + i, c(i, j, k) at N N k + N j + i
abbrev pub entry_of : ℕ → ℕ → List ℕ → Degree → ℕ → ℕ
entry_of N n w One p = l_entry n w p
entry_of N n w Two p = q_entry n w (p % N) (p / N)
entry_of N n w Three p = c_entry n w (p % N) (p / N % N) (p / (N * N))

unfoldable pub list_of : ℕ → ℕ → List ℕ → Degree → List ℕ
list_of N n w of = tabulate (size_of N of) (entry_of N n w of)

abbrev pub l_list : ℕ → ℕ → List ℕ → List ℕ
l_list N n w = list_of N n w One

abbrev pub q_list : ℕ → ℕ → List ℕ → List ℕ
q_list N n w = list_of N n w Two

abbrev pub c_list : ℕ → ℕ → List ℕ → List ℕ
c_list N n w = list_of N n w Three

-- ---- the three lists as they are lent

-- the lists of the coefficients of these weights
pub record ListsOf (n : ℕ) (weights l q c : List ℕ) : Type 0 where
  pub l_is : l ≡ l_list max_wires n weights
  pub q_is : q ≡ q_list max_wires n weights
  pub c_is : c ≡ c_list max_wires n weights
