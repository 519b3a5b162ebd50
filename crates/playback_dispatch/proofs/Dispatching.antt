-- The call that a text makes: where no display speaks a journal call as it is, and in a mixed input by what the text is read as.
use Prim.Native.Nat.{ℕ}
use mathlib.Core.Path.{◌≡◌, refl}
use mathlib.Core.Bool.{Bool, true, false}
use mathlib.Core.List.{List}
use Rattle.std.specs.Prelude.{Some, None}
use Rattle.commands.specs.declared.Command.TheVariants as Command
use Rattle.commands.specs.ReadLine.{command_of}
use Rattle.node.specs.Held.{Held}
use Rattle.node.specs.View.{Lent}
use Rattle.node.specs.Calls.{called_on}
use Rattle.node.specs.Displays.{acknowledged_on, fetched_on}
use Rattle.playback_dispatch.specs.Dispatch.{followed, commanded, dispatched}

pub plainly : (st : Held) (x : Lent) (text area : List ℕ) → dispatched false false st x text area ≡ called_on st x text area
unfolding dispatched followed
plainly st x text area = refl

module _ (mixed acknowledging : Bool) (st : Held) (x : Lent) (text area : List ℕ) where
  pub as_journal_call : mixed ≡ false → followed acknowledging st x text area ≡ dispatched mixed acknowledging st x text area
  unfolding dispatched
  as_journal_call off = rw off

  module _ (on : mixed ≡ true) where
    pub as_acknowledgement :
        (display id : ℕ) → command_of text ≡ Some (Command.Acknowledge display id) →
        acknowledged_on st x display id area ≡ dispatched mixed acknowledging st x text area
    unfolding dispatched commanded
    as_acknowledgement display id e = rw (on, e)

    pub as_fetch :
        (display id : ℕ) → command_of text ≡ Some (Command.Fetch display id) →
        fetched_on st x display id area ≡ dispatched mixed acknowledging st x text area
    unfolding dispatched commanded
    as_fetch display id e = rw (on, e)

    pub as_no_command :
        command_of text ≡ None → followed acknowledging st x text area ≡ dispatched mixed acknowledging st x text area
    unfolding dispatched commanded
    as_no_command e = rw (on, e)
