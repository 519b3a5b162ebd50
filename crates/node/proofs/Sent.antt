-- The records of a call laid into the send-back store: the stable ones of them, numbered one after the other, go behind those that are
-- held.
use Prim.Native.Nat.{ℕ, suc, ◌%◌}
use mathlib.Core.Path.{◌≡◌, refl, ◌∙◌, ap}
use mathlib.Core.Bool.{Bool, true, false, cond}
use mathlib.Core.List.{List, [], ◌∷◌, map}
use borrow.Author.Tests.{eq-eqb}
use lib.ListN.{set}
use Rattle.record.specs.declared.Record.{Record}
use Rattle.record.specs.Kinds.{is_stable}
use Rattle.record.specs.Layout.{bytes_of}
use Rattle.record.specs.Fields.{fields_of}
use Rattle.record.proofs.BytesOf.{length_bytes_of}
use Rattle.store.specs.Lists.{keep}
use Rattle.retransmission.specs.Sizes.{held_results}
use Rattle.retransmission.specs.Places.{place_of, holding, place_ok}
use Rattle.retransmission.proofs.Places.{held_over, place_behind}
use Rattle.retransmission.proofs.Stores.{Whole, whole_set}
use Rattle.protocol.specs.SentBack.{Consecutive}

abbrev pub is_stable_record : Record → Bool
is_stable_record r = is_stable r.kind

pub holding_held :
    (ps : List (List ℕ)) (n : ℕ) (rs : List Record) → Consecutive n (keep is_stable_record rs) →
    holding ps rs ≡ held_over ps n (map bytes_of (keep is_stable_record rs))
unfolding holding held_over keep
holding_held ps n [] h = refl
holding_held ps n (r ∷ rs) h =
    (elim (is_stable r.kind) as
    (λ b.
    Consecutive n (cond b (r ∷ keep is_stable_record rs) (keep is_stable_record rs)) →
    holding (cond b (set ps (place_of r.id) (bytes_of r)) ps) rs ≡
    held_over ps n (map bytes_of (cond b (r ∷ keep is_stable_record rs) (keep is_stable_record rs)))) [
      | true ↦ λ h.
          ap (λ (i : ℕ). holding (set ps i (bytes_of r)) rs) (ap place_of h.0 ∙ place_behind n) ∙
          holding_held (set ps (n % held_results) (bytes_of r)) (suc n) rs h.1
      | false ↦ λ h. holding_held ps n rs h
    ])
    h

-- results' bytes laid over whole places leave whole places
pub whole_held : (ps : List (List ℕ)) (n : ℕ) (xs : List (List ℕ)) → Whole xs → Whole ps → Whole (held_over ps n xs)
unfolding held_over
whole_held ps n [] h w = w
whole_held ps n (x ∷ xs) h w = whole_held (set ps (n % held_results) x) (suc n) xs h.1 (whole_set ps (n % held_results) x h.0 w)

pub whole_bytes : (rs : List Record) → Whole (map bytes_of rs)
whole_bytes [] = tt
whole_bytes (r ∷ rs) = (length_bytes_of r, whole_bytes rs)

-- a stable result whose bytes are read as itself passes the test of its place
pub result_passes : (n : ℕ) (r : Record) → fields_of (bytes_of r) ≡ r → is_stable r.kind ≡ true → r.id ≡ n → place_ok n (bytes_of r) ≡ true
unfolding place_ok
result_passes n r w k e = rw (w, k, eq-eqb r.id n e)
