-- Tests over the lines that are kept in one Bool, line by line: what is found so far, together with the test of the lines left, stays the
-- same. Line i is its head with the i-th share of the readings.
use Prim.Native.Nat.{ℕ, ◌+◌, ◌*◌, ◌<◌, ◌≤◌}
use mathlib.Core.Path.{◌≡◌, sym, ap, ◌∙◌}
use mathlib.Core.Bool.{Bool, ◌&&◌, ◌||◌, and_assoc, and-true, or_assoc, or-false}
use mathlib.Core.List.{List, [], ◌∷◌}
use native.Mathlib.Numerals.{add-one}
use native.Mathlib.Omega.{arith}
use lib.ListN.{length, get_or, take, drop, drop_of_length-le}
use lib.Seq.{drop-cons}
use Rattle.store.specs.declared.Reading.{Reading}
use Rattle.store.specs.Sizes.{readings_per_line}
use Rattle.store.specs.Lists.{some_of, all_of}
use Rattle.protocol.specs.Node.{Line, no_line}
use Rattle.node.specs.View.{view_line, view_lines, head_of}
use Rattle.node.specs.declared.LineHead.{LineHead}
use Rattle.node.proofs.Shares.{line_at_lem, length_view_lines}

-- line i of heads and readings
abbrev pub line_at : List LineHead → List Reading → ℕ → Line
line_at hs rs i = view_line (get_or hs i (head_of no_line)) (take readings_per_line (drop (i * readings_per_line) rs))

-- the lines from line i on
pub lines_left :
    (n : ℕ) (hs : List LineHead) (rs : List Reading) (i : ℕ) → n ≤ length hs → i < n →
    drop i (view_lines n hs rs) ≡ line_at hs rs i ∷ drop (i + 1) (view_lines n hs rs)
lines_left n hs rs i room h =
    let e : length (view_lines n hs rs) ≡ n = length_view_lines n hs rs room in
    rw (add-one, drop-cons (view_lines n hs rs) i no_line (omega arith), line_at_lem n hs rs i h room)

pub no_lines_left : (n : ℕ) (hs : List LineHead) (rs : List Reading) (i : ℕ) → n ≤ length hs → n ≤ i → drop i (view_lines n hs rs) ≡ []
no_lines_left n hs rs i room h =
    let e : length (view_lines n hs rs) ≡ n = length_view_lines n hs rs room in
    drop_of_length-le (view_lines n hs rs) {i = i} (omega arith)

-- ---- whether all lines pass

-- i lines have been tested
abbrev pub AllLinesSoFar : (Line → Bool) → ℕ → List LineHead → List Reading → Bool → ℕ → Type 0
AllLinesSoFar test n hs rs ok i = ok && all_of test (drop i (view_lines n hs rs)) ≡ all_of test (view_lines n hs rs)

module _ (test : Line → Bool) (n : ℕ) (hs : List LineHead) (rs : List Reading) where
  module _ (room : n ≤ length hs) (ok : Bool) (i : ℕ) (v : AllLinesSoFar test n hs rs ok i) where
    pub all_lines_turn : i < n → (passes : Bool) → passes ≡ test (line_at hs rs i) → AllLinesSoFar test n hs rs (ok && passes) (i + 1)
    unfolding all_of
    all_lines_turn h passes e =
        let left : Bool = all_of test (drop (i + 1) (view_lines n hs rs)) in
        and_assoc ok passes left
        ∙ ap (λ (b : Bool). ok && (b && left)) e
        ∙ (rw (lines_left n hs rs i room h) at v)

    pub all_lines_end : n ≤ i → ok ≡ all_of test (view_lines n hs rs)
    unfolding all_of
    all_lines_end h = sym (and-true ok) ∙ (rw (no_lines_left n hs rs i room h) at v)

-- ---- whether some line passes

-- i lines have been tested
abbrev pub SomeLineSoFar : (Line → Bool) → ℕ → List LineHead → List Reading → Bool → ℕ → Type 0
SomeLineSoFar test n hs rs found i =
    found || some_of test (drop i (view_lines n hs rs)) ≡ some_of test (view_lines n hs rs)

module _ (test : Line → Bool) (n : ℕ) (hs : List LineHead) (rs : List Reading) where
  module _ (room : n ≤ length hs) (found : Bool) (i : ℕ) (v : SomeLineSoFar test n hs rs found i) where
    pub some_line_turn : i < n → (passes : Bool) → passes ≡ test (line_at hs rs i) → SomeLineSoFar test n hs rs (found || passes) (i + 1)
    unfolding some_of
    some_line_turn h passes e =
        let left : Bool = some_of test (drop (i + 1) (view_lines n hs rs)) in
        or_assoc found passes left
        ∙ ap (λ (b : Bool). found || (b || left)) e
        ∙ (rw (lines_left n hs rs i room h) at v)

    pub some_line_end : n ≤ i → found ≡ some_of test (view_lines n hs rs)
    unfolding some_of
    some_line_end h = sym (or-false found) ∙ (rw (no_lines_left n hs rs i room h) at v)
