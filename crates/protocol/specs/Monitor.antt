-- A monitor of the calls, document 01's day book: which buckets are to be worked as stable (section 'From the opening on'). It sees the
-- settings, the calls' fields and whether each call was accepted. With the node it shares the letters of the kinds (Kinds.antt) and plain
-- functions on lists (`keep`, `some_of`, `modify`); buckets, boundaries, the hold and the steps it says in its own words.
use Rattle.std.specs.Prelude.{ℕ, suc, ◌+◌, ◌-◌, ◌/◌, min, Bool, true, false, cond, ◌&&◌, List, [], ◌∷◌, ◌++◌, leb, ltb, replicate}
use Rattle.clock.specs.declared.ReadingTime.{ReadingTime}
use Rattle.clock.specs.declared.ArrivalTick.{ArrivalTick}
use Rattle.settings.specs.declared.Settings.{Settings}
use Rattle.journal.specs.declared.Call.{Call}
use Rattle.store.specs.Lists.{keep, some_of, modify}
use Rattle.protocol.specs.Kinds.{Kind, kind_of}

-- what is observed of a reading
pub record Entry : Type 0 where
  pub id : ℕ
  pub time : ReadingTime
  pub arrival : ArrivalTick

-- of a line: its greatest boundary so far, and its readings
pub record LineMonitor : Type 0 where
  pub boundary : ReadingTime
  pub entries : List Entry

-- d: the buckets below it are worked as stable; t: those below it are worked at all; the mark: an R is due
pub record Monitor : Type 0 where
  pub d : ℕ
  pub t : ℕ
  pub mark : Bool
  pub lines : List LineMonitor

unfoldable pub fresh_monitor : Settings → Monitor
fresh_monitor s =
    record { d = 0; t = 0; mark = false; lines = replicate s.lines (record { boundary = record { 0 = 0 }; entries = [] }) }

unfoldable pub least_boundary : List LineMonitor → ℕ
least_boundary [] = 0
least_boundary (g ∷ []) = g.boundary.0
least_boundary (g ∷ h ∷ gs) = min g.boundary.0 (least_boundary (h ∷ gs))

-- m: the buckets below it are stable
unfoldable pub stable_buckets : Settings → Monitor → ℕ
stable_buckets s y = least_boundary y.lines / s.bucket

-- the stable buckets left to work
unfoldable pub left_to_work : Settings → Monitor → ℕ
left_to_work s y = stable_buckets s y - y.d

unfoldable pub entry_due : Settings → ℕ → ArrivalTick → Entry → Bool
entry_due s t now e = leb t (e.time.0 / s.bucket) && leb (e.arrival.0 + s.hold) now.0

unfoldable pub any_due : Settings → ℕ → ArrivalTick → List LineMonitor → Bool
any_due s t now = some_of (λ (g : LineMonitor). some_of (entry_due s t now) g.entries)

-- a step: the first that applies
unfoldable pub observe_step : Settings → Monitor → ArrivalTick → Monitor
observe_step s y now =
    cond (ltb y.d (stable_buckets s y))
    (cond (ltb y.d y.t) (record { d = y.d; t = y.d; mark = true; lines = y.lines })
    (record { d = suc y.d; t = suc y.d; mark = y.mark; lines = y.lines }))
    (cond y.mark (record { d = y.d; t = y.t; mark = false; lines = y.lines })
    (cond (any_due s y.t now y.lines) (record { d = y.d; t = suc y.t; mark = y.mark; lines = y.lines }) y))

unfoldable pub entry_of : Call → Entry
entry_of k = record { id = k.id; time = k.time; arrival = k.now }

-- what an accepted call of this kind does to what is known of its line
unfoldable pub observe_line : Call → Kind → LineMonitor → LineMonitor
observe_line k Kind.S g = record { boundary = g.boundary; entries = g.entries ++ entry_of k ∷ [] }
observe_line k Kind.T g = record { boundary = g.boundary; entries = g.entries ++ entry_of k ∷ [] }
observe_line k Kind.B g = record { boundary = k.time; entries = g.entries }
observe_line k Kind.U g = record { boundary = g.boundary; entries = keep (λ (e : Entry). leb e.id k.id) g.entries }
observe_line k Kind.R g = g
observe_line k Kind.P g = g

unfoldable pub observe_input : Monitor → Call → Kind → Monitor
observe_input y k kind =
    record { d = y.d; t = y.t; mark = y.mark; lines = modify (observe_line k kind) (k.line - 1) y.lines }

-- which kinds are inputs it says for each by itself, and not by the node's table of the fields that they use
unfoldable pub observe_kind : Settings → Monitor → Call → Kind → Monitor
observe_kind s y k Kind.S = observe_input y k Kind.S
observe_kind s y k Kind.T = observe_input y k Kind.T
observe_kind s y k Kind.B = observe_input y k Kind.B
observe_kind s y k Kind.U = observe_input y k Kind.U
observe_kind s y k Kind.R = observe_input y k Kind.R
observe_kind s y k Kind.P = observe_step s y k.now

-- a refused call changes nothing
unfoldable pub observe : Settings → Monitor → Call → Bool → Monitor
observe s y k is_accepted = cond is_accepted (observe_kind s y k (kind_of k.kind)) y
