-- Buckets joined to windows (document 01, section 'Buckets and the operator').
use Rattle.std.specs.Prelude.{ℕ, ◌+◌, ◌-◌, ◌*◌, ◌%◌, Bool, eqb}

-- bucket j is the last of its window
unfoldable pub closes_window : ℕ → ℕ → Bool
closes_window window j = eqb ((j + 1) % window) 0

-- the start of the window that bucket j closes
unfoldable pub window_start : ℕ → ℕ → ℕ → ℕ
window_start bucket window j = (j + 1 - window) * bucket
