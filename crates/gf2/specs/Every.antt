-- A test that computes, at every number below a bound, or at some.
use Rattle.std.specs.Prelude.{Bool, ◌&&◌, ◌||◌, false, true, suc, zero, ℕ}

-- the test holds of every number below k
unfoldable pub every : ℕ → (ℕ → Bool) → Bool
every zero test = true
every (suc k) test = test k && every k test

-- the test holds of some number below k
unfoldable pub any : ℕ → (ℕ → Bool) → Bool
any zero test = false
any (suc k) test = test k || any k test
