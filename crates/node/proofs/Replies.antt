-- A refused call's reply: no record, and everything as it was. By the definitions.
use mathlib.Core.Path.{◌≡◌, refl}
use mathlib.Core.List.{List}
use Prim.Native.Nat.{ℕ}
use Rattle.std.specs.Prelude.{Err}
use Rattle.answer.specs.declared.Refusal.{Refusal}
use Rattle.answer.specs.Refusals.{number}
use Rattle.node.specs.declared.State.{State}
use Rattle.node.specs.declared.Stores.{Stores}
use Rattle.node.specs.Held.{held}
use Rattle.node.specs.View.{Lent, lent}
use Rattle.node.specs.Calls.{answered_of, called_of, records_of, refused_with}

pub refused_answered :
    (refusal : Refusal) (s : State) (x : Lent) (area : List ℕ) →
    answered_of (Err refusal) s x area ≡ refused_with (number refusal) (held s) x area
unfolding records_of refused_with
refused_answered refusal s x area = refl

pub refused_called :
    (refusal : Refusal) (s : State) (x : Stores) (area : List ℕ) →
    called_of (Err refusal) s x area ≡ refused_with (number refusal) (held s) (lent x) area
refused_called refusal s x area = refused_answered refusal s (lent x) area
