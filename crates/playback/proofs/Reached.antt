-- The call that a text makes is a list of calls of demand 3: a journal call and the acknowledgements behind it, or one call of a display.
-- So calls lead from the box before a turn to the box behind it, and from the opening to the end.
use Prim.Native.Nat.{ℕ, zero, suc}
use mathlib.Core.Path.{refl, sym, ap, ap₂, subst, ◌∙◌}
use mathlib.Core.Bool.{Bool, true, false, cond}
use mathlib.Core.List.{List, [], ◌∷◌, ◌++◌}
use Rattle.std.specs.Prelude.{Option, Some, None}
use Rattle.commands.specs.declared.Command.{Command}
use Rattle.commands.specs.ReadLine.{command_of}
use Rattle.settings.specs.Limits.{max_displays}
use Rattle.node.specs.declared.State.{State}
use Rattle.node.specs.Held.{Held, held}
use Rattle.node.specs.View.{Lent}
use Rattle.node.specs.Calls.{Called, called_on}
use Rattle.node.specs.Displays.{acknowledged_on}
use Rattle.consistency.specs.Runs.{Box, Input, called, left, left_after}
use Rattle.consistency.specs.Demand.{opening, box_of}
use Rattle.consistency.proofs.Runs.{left_append}
use Rattle.playback_dispatch.specs.Dispatch.{is_behind, caught_up, all_caught_up, followed, commanded, dispatched}
use Rattle.playback_cursor.specs.Cut.{text_at}
use Rattle.playback_start.specs.declared.Started.{Started}
use Rattle.playback_start.specs.Start.{Begun}
use Rattle.playback.specs.Run.{Standing, standing, Turn, Turns, PlayedOut, zeroed_stores, handed_with, Reached, Finished}

-- ---- no call, one, and one list behind another

pub reached_none : (b : Box) → Reached b b
unfolding left_after
reached_none b = record { inputs = []; left = refl }

reached_one : (b : Box) (i : Input) → Reached b (left b i)
unfolding left_after
reached_one b i = record { inputs = i ∷ []; left = refl }

reached_on : {b c d : Box} → Reached b c → Reached c d → Reached b d
reached_on {b} f g =
    record {
      inputs = f.inputs ++ g.inputs;
      left = g.left ∙ ap (λ (e : Box). left_after e g.inputs) f.left ∙ sym (left_append b f.inputs g.inputs);
    }

-- ---- the call that a text makes

abbrev box_with : Held → Lent → Box
box_with st x = record { state = st; lent = x }

abbrev box_after : Called → Box
box_after q = box_with q.state q.lent

caught_up_lem : (n : ℕ) (q : Called) → Reached (box_after q) (box_after (caught_up n q))
unfolding caught_up left called
caught_up_lem n q =
    let a : Called = acknowledged_on q.state q.lent (suc n) q.state.checkpoint.number q.area in
    elim (is_behind q.state n) as
    (λ b.
    Reached (box_after q)
    (box_after (cond b (record { answer = q.answer; records = q.records; state = a.state; lent = a.lent; area = q.area }) q))) [
      | true ↦ reached_one (box_after q) (Input.acknowledge (suc n) q.state.checkpoint.number q.area)
      | false ↦ reached_none (box_after q)
    ]

all_caught_up_lem : (n : ℕ) (q : Called) → Reached (box_after q) (box_after (all_caught_up n q))
unfolding all_caught_up
all_caught_up_lem zero q = reached_none (box_after q)
all_caught_up_lem (suc n) q = reached_on (all_caught_up_lem n q) (caught_up_lem n (all_caught_up n q))

module _ (b : Box) (text area : List ℕ) (acknowledging : Bool) where
  followed_reached : Reached b (box_after (followed acknowledging b.state b.lent text area))
  unfolding followed left called
  followed_reached =
      let q : Called = called_on b.state b.lent text area in
      let one : Reached b (box_after q) = reached_one b (Input.journal text area) in
      elim acknowledging as (λ t. Reached b (box_after (cond t (all_caught_up max_displays q) q))) [
        | true ↦ reached_on one (all_caught_up_lem max_displays q)
        | false ↦ one
      ]

  commanded_reached : (command : Option Command) → Reached b (box_after (commanded command acknowledging b.state b.lent text area))
  unfolding commanded left called
  commanded_reached (Some (Command.Acknowledge display id)) = reached_one b (Input.acknowledge display id area)
  commanded_reached (Some (Command.Fetch display id)) = reached_one b (Input.fetch display id area)
  commanded_reached None = followed_reached

  pub dispatched_reached : (mixed : Bool) → Reached b (box_after (dispatched mixed acknowledging b.state b.lent text area))
  unfolding dispatched
  dispatched_reached mixed =
      elim mixed as
      (λ t.
      Reached b
      (box_after
      (cond t (commanded (command_of text) acknowledging b.state b.lent text area)
      (followed acknowledging b.state b.lent text area)))) [
        | true ↦ commanded_reached (command_of text)
        | false ↦ followed_reached
      ]

-- ---- turns, and the whole

turn_reached : (mixed acknowledging : Bool) (s t : Standing) → Turn mixed acknowledging s t → Reached s.box t.box
turn_reached mixed acknowledging s t e =
    subst (Reached s.box) (sym (ap₂ box_with e.state e.lent))
    (dispatched_reached s.box (text_at s.buf s.cursor) s.area acknowledging mixed)

turns_reached :
    {mixed acknowledging : Bool} {s : Standing} {n : ℕ} {t : Standing} → Turns mixed acknowledging s n t → Reached s.box t.box
turns_reached {s = s} Turns.none = reached_none s.box
turns_reached {mixed} {acknowledging} (Turns.turn {t = t} {u = u} f p e) =
    reached_on (turns_reached f) (turn_reached mixed acknowledging t u e)

-- from the opening on
pub finished :
    {mixed acknowledging : Bool} {buf out : List ℕ} {r : Started} {buffered answered : List ℕ} {y : Lent} {z : Lent}
    {area bytes rest written : List ℕ} (st : State) → Begun buf out zeroed_stores r buffered answered y →
    PlayedOut mixed acknowledging (standing (held r.state) y area buffered answered r.cursor) (held st) z bytes rest written →
    Finished mixed acknowledging st
unfolding box_of opening handed_with
finished {buf = buf} {out = out} {r = r} {buffered = buffered} {answered = answered} {y = y} {z = z}
    {area = area} {bytes = bytes} {rest = rest} {written = written} st b p =
    let f = turns_reached p.turns in
    record {
      buf = buf;
      out = out;
      started = r;
      buffered = buffered;
      answered = answered;
      opened = y;
      begins = b;
      area = area;
      after = z;
      bytes = bytes;
      rest = rest;
      written = written;
      plays = p;
      calls =
          record {
            inputs = f.inputs;
            left = f.left ∙ ap (λ (c : Box). left_after c f.inputs) (ap₂ box_with b.state b.lent);
          };
    }
