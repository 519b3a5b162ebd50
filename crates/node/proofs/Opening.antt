-- The opening: an accepted one leaves the fresh state of settings that were read and are within their limits, and state and store then
-- stand for the opened node; a refused one leaves what it was handed. By cases on what the text is read as.
use Prim.Native.Nat.{ℕ, zero, suc, ◌*◌, ◌≤◌}
use mathlib.Core.Path.{◌≡◌, refl, sym, ◌∙◌, ap, ap₂, subst}
use mathlib.Core.Bool.{Bool, true, false, cond}
use mathlib.Core.List.{List, ◌∷◌}
use native.Mathlib.Omega.{arith}
use borrow.Author.Tests.{ltb-false, le-ltb}
use lib.Dec.{ltb}
use lib.ListN.{length, take, drop, replicate, length-replicate}
use Rattle.std.specs.Prelude.{Result, Ok, Err}
use Rattle.answer.specs.declared.Refusal.{Refusal}
use Rattle.answer.specs.Refusals.{number}
use Rattle.settings.specs.declared.Settings.{Settings}
use Rattle.settings.specs.Limits.{max_lines, max_displays, within_limits, SettingsFit}
use Rattle.settings.specs.SettingsLine.{settings_text, settings_answer, limited}
use Rattle.settings.specs.ReadLine.{settings_of}
use Rattle.settings.proofs.Exact.{exact_settings}
use Rattle.store.specs.declared.Reading.{Reading}
use Rattle.store.specs.Lists.{Every}
use Rattle.protocol.specs.Node.{Line, no_line, opened}
use Rattle.store.specs.Sizes.{readings_per_line}
use Rattle.store.specs.Columns.{with_rows, rows, store_length, Columns, zeroed}
use Rattle.retransmission.specs.Sizes.{held_results, held_bytes}
use Rattle.retransmission.specs.Places.{empty_place, with_places}
use Rattle.protocol.proofs.Displays.{neither}
use Rattle.node.specs.View.{Lent, view_line, view_lines, places, view, head_of}
use Rattle.node.specs.Opening.{Opened, shares_short, is_short, fresh_state, opened_with, opened_on}
use Rattle.node.specs.declared.LineHead.{LineHead}
use Rattle.node.specs.Held.{Held}
use Rattle.node.proofs.Lists.{every_replicate}
use Rattle.node.proofs.Limits.{Limits, limits_hold}
use Rattle.store.proofs.Columns.{store_length_with_rows}
use Rattle.node.proofs.Shares.{SmallHead}
use Rattle.node.proofs.View.{Fits}

-- ---- the settings that were read

same_settings : (s t : Settings) → ◌≡◌ {A = Result Settings Refusal} (Ok s) (Ok t) → s ≡ t
same_settings s t e = cc

outside_accepted : (s : Settings) → Err Refusal.OutsideLimits ≡ Ok s → ⊥
outside_accepted s e = let z : ◌≡◌ {A = ℕ} 0 1 = cc in omega arith

accepted_one : (s : Settings) → settings_answer (Ok s) ≡ 1 → ⊥
accepted_one s e = omega (arith, e)

limited_accepted : (s t : Settings) → limited s ≡ Ok t → (s ≡ t) × (within_limits s ≡ true)
unfolding limited
limited_accepted s t e =
    (elim (within_limits s) as
    (λ b.
    within_limits s ≡ b → cond b (Ok s) (Err Refusal.OutsideLimits) ≡ Ok t →
    (s ≡ t) × (within_limits s ≡ true)) [
      | true ↦ λ q e. (same_settings s t e, q)
      | false ↦ λ q e. absurd (outside_accepted t e)
    ])
    refl e

-- no refusal has the number of an accepted call
pub refused_some : (refusal : Refusal) → number refusal ≡ 0 → ⊥
refused_some Refusal.MalformedSettings e = omega (arith, e)
refused_some Refusal.OutsideLimits e = omega (arith, e)
refused_some Refusal.ShortStore e = omega (arith, e)
refused_some Refusal.OutOfShape e = omega (arith, e)
refused_some Refusal.ShortArea e = omega (arith, e)
refused_some Refusal.Malformed e = omega (arith, e)
refused_some Refusal.EarlierCall e = omega (arith, e)
refused_some Refusal.WrongLine e = omega (arith, e)
refused_some Refusal.UnusedField e = omega (arith, e)
refused_some Refusal.WrongMeter e = omega (arith, e)
refused_some Refusal.WrongId e = omega (arith, e)
refused_some Refusal.TooEarly e = omega (arith, e)
refused_some Refusal.HeldBack e = omega (arith, e)
refused_some Refusal.FullLine e = omega (arith, e)
refused_some Refusal.LacksPlaces e = omega (arith, e)
refused_some Refusal.WrongDisplay e = omega (arith, e)
refused_some Refusal.WrongResultId e = omega (arith, e)

-- settings that are accepted are those of the text, each within its width and its limits
pub record Accepts (text : List ℕ) (s : Settings) : Type 0 where
  pub spelled : text ≡ settings_text s
  pub fit : SettingsFit s
  pub limits : within_limits s ≡ true

pub settings_accepted : (text : List ℕ) (s : Settings) → settings_of text ≡ Ok s → Accepts text s
settings_accepted text s e =
    let found = (exact_settings text).only (λ m. accepted_one s (sym (ap settings_answer e) ∙ m)) in
    let q = limited_accepted found.0 s (sym ((exact_settings text).line found.0 found.1 found.2) ∙ e) in
    subst (λ (t : Settings). Accepts text t) q.0 (record { spelled = found.2; fit = found.1; limits = q.1 })

-- ---- the fresh state

lines_fresh : (n m : ℕ) (rs : List Reading) → n ≤ m → view_lines n (replicate m (head_of no_line)) rs ≡ replicate n no_line
unfolding view_lines view_line head_of no_line
lines_fresh zero m rs h = refl
lines_fresh (suc n) zero rs h = absurd (omega arith)
lines_fresh (suc n) (suc m) rs h = ap (◌∷◌ no_line) (lines_fresh n m (drop readings_per_line rs) (omega arith))

take_replicate : (n m : ℕ) (z : ℕ) → n ≤ m → take n (replicate m z) ≡ replicate n z
take_replicate zero m z h = refl
take_replicate (suc n) zero z h = absurd (omega arith)
take_replicate (suc n) (suc m) z h = ap (◌∷◌ z) (take_replicate n m z (omega arith))

-- over any store a fresh state stands for the opened node
pub view_fresh : (s : Settings) (x : Columns) → s.lines ≤ max_lines → s.displays ≤ max_displays → view (fresh_state s) x ≡ opened s
unfolding view fresh_state opened places
view_fresh s x h d =
    ap₂ (λ (ls : List Line) (ids : List ℕ).
    record {
      clock = (opened s).clock;
      c = (opened s).c;
      p = (opened s).p;
      phase = (opened s).phase;
      operator = (opened s).operator;
      checkpoint = (opened s).checkpoint;
      lines = ls;
      acknowledged = ids;
    })
    (lines_fresh s.lines max_lines (rows x (s.lines * readings_per_line)) h) (take_replicate s.displays max_displays 0 d)

-- it has a head for each line that there can be, and keeps nothing
pub length_heads_fresh : (s : Settings) → length (fresh_state s).heads ≡ max_lines
unfolding fresh_state
length_heads_fresh s = refl

pub empty_fresh : (s : Settings) → Every (λ (h : LineHead). h.kept ≡ 0) (fresh_state s).heads
unfolding fresh_state head_of no_line
empty_fresh s = every_replicate (λ (h : LineHead). h.kept ≡ 0) max_lines (head_of no_line) refl

pub settings_fresh : (s : Settings) → (fresh_state s).settings ≡ s
unfolding fresh_state
settings_fresh s = refl

small_fresh : (n m : ℕ) → Every SmallHead (take n (replicate m (head_of no_line)))
unfolding head_of no_line
small_fresh zero m = tt
small_fresh (suc n) zero = tt
small_fresh (suc n) (suc m) = (omega arith, small_fresh n m)

-- the store that an opening leaves
abbrev pub zeroed_store : Settings → Columns → Columns
zeroed_store s x = with_rows x (replicate (s.lines * readings_per_line) zeroed)

module _ (s : Settings) (x : Columns) (room : s.lines * readings_per_line ≤ store_length x) where
  pub store_length_zeroed : store_length (zeroed_store s x) ≡ store_length x
  store_length_zeroed =
      store_length_with_rows x (replicate (s.lines * readings_per_line) zeroed)
      (omega (arith, length-replicate (s.lines * readings_per_line) zeroed))

  pub fits_fresh : s.lines ≤ max_lines → s.displays ≤ max_displays → Fits (fresh_state s) (zeroed_store s x)
  unfolding fresh_state places
  fits_fresh h d =
      record {
        heads = omega (arith, length-replicate max_lines (head_of no_line));
        kept = small_fresh s.lines max_lines;
        room = omega (arith, store_length_zeroed);
        displays = omega (arith, length-replicate {A = ℕ} max_displays 0);
      }

-- the stores that an opening leaves
abbrev pub zeroed_lent : Settings → Lent → Lent
zeroed_lent s x =
    record { readings = zeroed_store s x.readings; sent = with_places x.sent (replicate held_results empty_place) }

-- ---- the opening

-- both stores are long enough
pub not_short :
    (lines : ℕ) (x : Lent) → is_short lines x ≡ false →
    (lines * readings_per_line ≤ store_length x.readings) × (held_bytes ≤ length x.sent)
unfolding is_short shares_short
not_short lines x e =
    let both = neither (ltb (store_length x.readings) (lines * readings_per_line)) (ltb (length x.sent) held_bytes) e in
    (ltb-false _ _ both.0, ltb-false _ _ both.1)

pub long_enough :
    (lines : ℕ) (x : Lent) → lines * readings_per_line ≤ store_length x.readings → held_bytes ≤ length x.sent →
    is_short lines x ≡ false
unfolding is_short shares_short
long_enough lines x h g = rw (le-ltb (store_length x.readings) (lines * readings_per_line) h, le-ltb (length x.sent) held_bytes g)

-- what an accepted opening was handed, and what it leaves
pub record OpenedOn (st : Held) (x : Lent) (text : List ℕ) : Type 0 where
  pub settings : Settings
  pub read : settings_of text ≡ Ok settings
  pub accepts : Accepts text settings
  pub room : settings.lines * readings_per_line ≤ store_length x.readings
  pub places : held_bytes ≤ length x.sent
  pub opens : opened_on st x text ≡ record { answer = 0; state = fresh_state settings; lent = zeroed_lent settings x }

-- an opening with settings that were accepted, the store short or not
abbrev opened_if : Held → Lent → Settings → Bool → Opened
opened_if st x s short =
    cond short (record { answer = 3; state = st; lent = x })
    (record { answer = 0; state = fresh_state s; lent = zeroed_lent s x })

opened_read :
    (st : Held) (x : Lent) (text : List ℕ) (r : Result Settings Refusal) → settings_of text ≡ r → (opened_with st x r).answer ≡ 0 →
    OpenedOn st x text
unfolding opened_on opened_with is_short
opened_read st x text (Ok s) q e =
    (elim (is_short s.lines x) as
    (λ b.
    is_short s.lines x ≡ b →
    (opened_if st x s b).answer ≡ 0 →
    OpenedOn st x text) [
      | true ↦ λ t e. absurd (omega (arith, e))
      | false ↦ λ t e.
          record {
            settings = s;
            read = q;
            accepts = settings_accepted text s q;
            room = (not_short s.lines x t).0;
            places = (not_short s.lines x t).1;
            opens = rw (q, t);
          }
    ])
    refl e
opened_read st x text (Err refusal) q e = absurd (refused_some refusal e)

pub opened_on_lem : (st : Held) (x : Lent) (text : List ℕ) → (opened_on st x text).answer ≡ 0 → OpenedOn st x text
unfolding opened_on
opened_on_lem st x text e = opened_read st x text (settings_of text) refl e

refused_read :
    (st : Held) (x : Lent) (r : Result Settings Refusal) → ((opened_with st x r).answer ≡ 0 → ⊥) →
    ((opened_with st x r).state ≡ st) × ((opened_with st x r).lent ≡ x)
unfolding opened_with
refused_read st x (Ok s) e =
    (elim (is_short s.lines x) as
    (λ b. ((opened_if st x s b).answer ≡ 0 → ⊥) → ((opened_if st x s b).state ≡ st) × ((opened_if st x s b).lent ≡ x)) [
      | true ↦ λ e. (refl, refl)
      | false ↦ λ e. absurd (e refl)
    ])
    e
refused_read st x (Err refusal) e = (refl, refl)

-- a refused opening changes nothing (document 01, section 'Refusal by whom'): a claim of its own, which no proof needs
pub refused_opening :
    (st : Held) (x : Lent) (text : List ℕ) → ((opened_on st x text).answer ≡ 0 → ⊥) →
    ((opened_on st x text).state ≡ st) × ((opened_on st x text).lent ≡ x)
unfolding opened_on
refused_opening st x text e = refused_read st x (settings_of text) e

module _ (st : Held) (x : Lent) (text : List ℕ) (o : OpenedOn st x text) where
  pub opened_limits : Limits o.settings
  opened_limits = limits_hold o.settings o.accepts.limits

  pub opened_state : (opened_on st x text).state ≡ fresh_state o.settings
  opened_state = ap (λ (r : Opened). r.state) o.opens

  pub opened_lent : (opened_on st x text).lent ≡ zeroed_lent o.settings x
  opened_lent = ap (λ (r : Opened). r.lent) o.opens

  pub opened_columns : (opened_on st x text).lent.readings ≡ zeroed_store o.settings x.readings
  opened_columns = ap (λ (y : Lent). y.readings) opened_lent

  pub opened_sent : (opened_on st x text).lent.sent ≡ with_places x.sent (replicate held_results empty_place)
  opened_sent = ap (λ (y : Lent). y.sent) opened_lent

  pub opened_view : view (opened_on st x text).state (opened_on st x text).lent.readings ≡ opened o.settings
  opened_view =
      ap₂ view opened_state opened_columns ∙
      view_fresh o.settings (zeroed_store o.settings x.readings) opened_limits.lines opened_limits.displays

  pub opened_fits : Fits (opened_on st x text).state (opened_on st x text).lent.readings
  opened_fits =
      rw (opened_state, opened_columns) (fits_fresh o.settings x.readings o.room opened_limits.lines opened_limits.displays)

  pub opened_settings : (opened_on st x text).state.settings ≡ o.settings
  opened_settings = ap (λ (t : Held). t.settings) opened_state ∙ settings_fresh o.settings

  pub opened_heads : length (opened_on st x text).state.heads ≡ max_lines
  opened_heads = ap (λ (t : Held). length t.heads) opened_state ∙ length_heads_fresh o.settings

  -- no line keeps anything (document 01, section 'Buckets and the operator'): a claim of its own, which no proof needs
  pub opened_empty : Every (λ (h : LineHead). h.kept ≡ 0) (opened_on st x text).state.heads
  opened_empty = rw opened_state (empty_fresh o.settings)
