-- The results of a bucket's work: as many as the numbering moved on, no more than there are meters, and room for one more record is left
-- behind them. By the laws on the operator's work and on bytes laid in front of an area.
use Prim.Native.Nat.{ℕ, ◌+◌, ◌*◌, ◌-◌, ◌≤◌}
use mathlib.Core.Path.{◌≡◌, sym, ◌∙◌, ap}
use mathlib.Core.Bool.{true}
use mathlib.Core.List.{List}
use native.Mathlib.Omega.{arith}
use lib.ListN.{length, length-append, length-drop}
use Rattle.area.specs.Laid.{in_front}
use Rattle.record.specs.declared.Record.{Record}
use Rattle.record.specs.Sizes.{record_bytes}
use Rattle.record.specs.Layout.{all_bytes}
use Rattle.record.proofs.AllBytes.{length_all_bytes}
use Rattle.store.specs.Order.{in_bucket}
use Rattle.store.specs.Columns.{Columns}
use Rattle.operator.specs.Meters.{Operator, meter_count}
use Rattle.operator.specs.Work.{Worked, close}
use Rattle.operator.proofs.Closing.{work_number}
use Rattle.clock.specs.Windows.{closes_window}
use Rattle.protocol.specs.Node.{kept_of}
use Rattle.protocol.specs.Rules.{worked}
use Rattle.node.specs.Held.{Held}
use Rattle.node.specs.Sizes.{area_bytes}
use Rattle.node.specs.View.{view}
use Rattle.node.proofs.Results.{length_work}
use Rattle.step_work.proofs.Closing.{Adds, number_stays, window_closed}

module _ (st : Held) (x : Columns) (kind j : ℕ) where
  number_moves :
      (worked st.settings kind j (view st x)).operator.number ≡
      st.operator.number + length (worked st.settings kind j (view st x)).records
  unfolding worked view
  number_moves = work_number st.settings kind j (in_bucket st.settings.bucket j (kept_of (view st x).lines)) st.operator

  pub few_results : length st.operator.meters ≡ meter_count → length (worked st.settings kind j (view st x)).records ≤ meter_count
  unfolding worked view
  few_results h = length_work st.settings kind j (in_bucket st.settings.bucket j (kept_of (view st x).lines)) st.operator h

pub length_in_front : (bytes area : List ℕ) → length bytes ≤ length area → length (in_front bytes area) ≡ length area
unfolding in_front
length_in_front bytes area h = simp (length-append, length-drop) (omega arith)

-- room for one more record behind the results, which are no more than there are meters
pub room_left :
    (st : Held) (x : Columns) (kind j n : ℕ) (area area' : List ℕ) → length st.operator.meters ≡ meter_count → area_bytes ≤ length area →
    n ≡ length (worked st.settings kind j (view st x)).records →
    area' ≡ in_front (all_bytes (worked st.settings kind j (view st x)).records) area →
    (n * record_bytes + record_bytes ≤ length area') × (n ≤ meter_count)
room_left st x kind j n area area' meters room count g =
    let results : List Record = (worked st.settings kind j (view st x)).records in
    let few : length results ≤ meter_count = few_results st x kind j meters in
    let same : length area' ≡ length area =
    ap length g ∙ length_in_front (all_bytes results) area (omega (arith, length_all_bytes results)) in
    (omega arith, omega arith)

-- what a bucket's work gives where it closes a window: the operator is the worked one, whose numbering has moved on by the results, which
-- the area holds; room for one more record is left behind them
pub record Given (st : Held) (x : Columns) (kind j : ℕ) (added closed : Operator) (area area' : List ℕ) : Type 0 where
  pub operator : closed ≡ (worked st.settings kind j (view st x)).operator
  pub bytes : area' ≡ in_front (all_bytes (worked st.settings kind j (view st x)).records) area
  pub later : added.number ≤ closed.number
  pub count : closed.number - added.number ≡ length (worked st.settings kind j (view st x)).records
  pub few : length (worked st.settings kind j (view st x)).records ≤ meter_count

pub window_given :
    (st : Held) (x : Columns) (kind j : ℕ) (added closed : Operator) (area area' : List ℕ) → length st.operator.meters ≡ meter_count →
    Adds st x j added → closes_window st.settings.window j ≡ true → closed ≡ (close st.settings kind j added).operator →
    area' ≡ in_front (all_bytes (close st.settings kind j added).records) area → Given st x kind j added closed area area'
window_given st x kind j added closed area area' meters adds closes e g =
    let all : worked st.settings kind j (view st x) ≡ close st.settings kind j added = window_closed st x j added adds kind closes in
    let operator : closed ≡ (worked st.settings kind j (view st x)).operator = e ∙ sym (ap (λ (w : Worked). w.operator) all) in
    let moved : closed.number ≡ st.operator.number + length (worked st.settings kind j (view st x)).records =
    ap (λ (o : Operator). o.number) operator ∙ number_moves st x kind j in
    let same : added.number ≡ st.operator.number = number_stays st x j added adds in
    record {
      operator = operator;
      bytes = g ∙ sym (ap (λ (w : Worked). in_front (all_bytes w.records) area) all);
      later = omega arith;
      count = omega arith;
      few = few_results st x kind j meters;
    }
