-- One line's share of the store after readings are laid into it: they fill its first places, places given up are zeroed, every other place
-- is as it was; so the line is read back, and what was read changes nothing. By cases on the place.
use Prim.Native.Nat.{ℕ, ◌+◌, ◌-◌, ◌≤◌, ◌<◌, max}
use mathlib.Core.Path.{◌≡◌, ◌∙◌, ap}
use mathlib.Core.List.{List, ◌++◌}
use native.Mathlib.Omega.{arith}
use lib.ListN.{length, get_or, take, drop, replicate}
use lib.ListN.{length-append, length-replicate, length-drop, take-append-drop, get_or-append, get_or-replicate}
use lib.Seq.{take-append_seam, length-take-le, get_or-append-add, get_or-drop}
use Rattle.store.specs.declared.Reading.{Reading}
use Rattle.protocol.specs.Node.{Line}
use Rattle.node.specs.View.{view_line, head_of, share_with}
use Rattle.store.specs.Columns.{zeroed}
use Rattle.node.specs.declared.LineHead.{LineHead}

-- ---- place by place

module _ (share : List Reading) (n : ℕ) (kept : List Reading) (j : ℕ) (d : Reading) where
  pub share_kept : j < length kept → get_or (share_with share n kept) j d ≡ get_or kept j d
  unfolding share_with
  share_kept h = get_or-append kept _ d j h

  -- a place given up
  pub share_given_up : length kept ≤ j → j < n → get_or (share_with share n kept) j d ≡ zeroed
  unfolding share_with
  share_given_up h g =
      let i : ℕ = j - length kept in
      let e : j ≡ length kept + i = omega arith in
      let z : i < n - length kept = omega arith in
      ap (λ (m : ℕ). get_or (share_with share n kept) m d) e ∙ get_or-append-add kept _ i d ∙
      get_or-append (replicate (n - length kept) zeroed) _ d i (omega (arith, length-replicate (n - length kept) zeroed)) ∙
      get_or-replicate (n - length kept) i zeroed d z

  pub share_untouched : length kept ≤ j → n ≤ j → get_or (share_with share n kept) j d ≡ get_or share j d
  unfolding share_with
  share_untouched h g =
      let i : ℕ = j - length kept in
      let m : ℕ = i - (n - length kept) in
      let e : j ≡ length kept + i = omega arith in
      let b : i ≡ length (replicate (n - length kept) zeroed) + m = omega (arith, length-replicate (n - length kept) zeroed) in
      let a : max n (length kept) + m ≡ j = omega arith in
      ap (λ (q : ℕ). get_or (share_with share n kept) q d) e ∙ get_or-append-add kept _ i d ∙
      ap (λ (q : ℕ). get_or (replicate (n - length kept) zeroed ++ drop (max n (length kept)) share) q d) b ∙
      get_or-append-add (replicate (n - length kept) zeroed) _ m d ∙ get_or-drop (max n (length kept)) share m d ∙
      ap (λ (q : ℕ). get_or share q d) a

-- ---- whole

-- a share keeps its places
pub length_share :
    (share : List Reading) (n : ℕ) (kept : List Reading) → n ≤ length share → length kept ≤ length share →
    length (share_with share n kept) ≡ length share
unfolding share_with
length_share share n kept h g = simp (length-append, length-replicate, length-drop) (omega arith)

-- a line that was laid down is read back
pub line_put : (l : Line) (share : List Reading) (n : ℕ) → view_line (head_of l) (share_with share n l.kept) ≡ l
unfolding view_line head_of share_with
line_put l share n =
    ap (λ (kept : List Reading). record { boundary = l.boundary; last_id = l.last_id; last_stable_id = l.last_stable_id; kept = kept })
    (take-append_seam l.kept _)

-- readings that were read change nothing
pub share_same : (share : List Reading) (n : ℕ) → n ≤ length share → share_with share n (take n share) ≡ share
unfolding share_with
share_same share n h =
    let e : length (take n share) ≡ n = length-take-le n share h in
    let z : n - length (take n share) ≡ 0 = omega arith in
    let m : max n (length (take n share)) ≡ n = omega arith in
    rw (z, m) (take-append-drop n share)

pub head_same : (h : LineHead) (share : List Reading) → h.kept ≤ length share → head_of (view_line h share) ≡ h
unfolding head_of view_line
head_same h share g =
    ap (λ (n : ℕ). record { boundary = h.boundary; last_id = h.last_id; last_stable_id = h.last_stable_id; kept = n })
    (length-take-le h.kept share g)
