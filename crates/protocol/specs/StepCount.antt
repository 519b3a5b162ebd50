-- How many steps it takes until every stable bucket is worked and the box is not correcting, if no input comes between and no step is
-- refused (document 02, W4).
use Rattle.std.specs.Prelude.{ℕ, zero, suc, ◌+◌, ◌-◌, ◌/◌, min, Bool, cond, List, [], ◌∷◌}
use Rattle.settings.specs.declared.Settings.{Settings}
use Rattle.protocol.specs.Node.{Line, Node}

-- with k stable buckets left to work, tentative work out or not, and the box correcting or not
unfoldable pub steps_needed : ℕ → Bool → Bool → ℕ
steps_needed zero out correcting = cond correcting 1 0
steps_needed (suc k) out correcting = suc k + cond out 2 0 + cond correcting 1 0

-- k by the node alone: the buckets below the least boundary, but for those worked as stable
unfoldable pub least_boundary_of : List Line → ℕ
least_boundary_of [] = 0
least_boundary_of (l ∷ []) = l.boundary.0
least_boundary_of (l ∷ m ∷ ls) = min l.boundary.0 (least_boundary_of (m ∷ ls))

unfoldable pub buckets_left : Settings → Node → ℕ
buckets_left s n = least_boundary_of n.lines / s.bucket - n.c
