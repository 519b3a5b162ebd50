-- The bytes of records one behind the other: how many, and one record more. By induction on the records.
use Prim.Native.Nat.{◌*◌}
use mathlib.Core.Path.{◌≡◌, refl, sym, ◌∙◌, ap}
use mathlib.Core.List.{List, [], ◌∷◌, ◌++◌, append_assoc}
use native.Mathlib.Omega.{arith}
use lib.ListN.{length, length-append}
use Rattle.record.specs.declared.Record.{Record}
use Rattle.record.specs.Sizes.{record_bytes}
use Rattle.record.specs.Layout.{bytes_of}
use Rattle.record.proofs.BytesOf.{length_bytes_of}
use Rattle.record.specs.Layout.{all_bytes}

pub length_all_bytes : (rs : List Record) → length (all_bytes rs) ≡ record_bytes * length rs
unfolding all_bytes
length_all_bytes [] = refl
length_all_bytes (r ∷ rs) = simp length-append (omega (arith, length_bytes_of r, length_all_bytes rs))

pub all_bytes_append : (rs qs : List Record) → all_bytes (rs ++ qs) ≡ all_bytes rs ++ all_bytes qs
unfolding all_bytes
all_bytes_append [] qs = refl
all_bytes_append (r ∷ rs) qs =
    ap (◌++◌ (bytes_of r)) (all_bytes_append rs qs) ∙ sym (append_assoc (bytes_of r) (all_bytes rs) (all_bytes qs))
