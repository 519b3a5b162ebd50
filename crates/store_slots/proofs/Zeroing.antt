-- Places zeroed: a part of the slots that is filled is a run of zeroed places stored there.
use Rattle.std.proofs.Common.{◌≡◌, ◌∙◌, ℕ, ◌+◌, ◌-◌, ◌≤◌, List, length, take, drop, replicate, append_assoc, refl, sym, arith}
use Rattle.std.proofs.lemmas.List.{length-replicate}
use Rattle.std.proofs.lemmas.List.Edits.{sets, sets-eq}
use borrow.Author.Tests.{le-leb}
use borrow.Rule.Slice.PartMut.{put_mid}
use lib.Seq.{drop-drop}
use Rattle.store.specs.declared.Reading.{Reading}
use Rattle.store.specs.Columns.{zeroed}
use Rattle.store_slots.specs.Slots.{has_places, zeroed_from}

pub filled :
    {A : Type 0} (from to : ℕ) (xs : List A) (x : A) → from ≤ to → to ≤ length xs →
    put_mid from (to - from) xs (replicate (to - from) x) ≡ sets xs from (replicate (to - from) x)
filled from to xs x f t =
    let size = length-replicate (to - from) x in
    rw (drop-drop (to - from) from xs) (sym (sets-eq (replicate (to - from) x) xs from (omega (arith, size)) ∙ rw size (append_assoc (take from xs) (replicate (to - from) x) (drop (from + (to - from)) xs))))

pub zeroed_all :
    (from to : ℕ) (ys : List Reading) → from ≤ to → to ≤ length ys → sets ys from (replicate (to - from) zeroed) ≡ zeroed_from from to ys
unfolding zeroed_from has_places
zeroed_all from to ys f t = rw (le-leb from to f, le-leb to (length ys) t) refl
