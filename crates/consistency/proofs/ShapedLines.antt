-- The lines of a node in shape: kept readings are S or T of a meter that there is, their ids rise and are at most the last id, and the last
-- stable id is no later. An accepted input keeps this of its line, and a bucket taken out of every line.
use Prim.Native.Nat.{ℕ, zero, suc, ◌+◌, ◌-◌, ◌≤◌, ◌<◌}
use mathlib.Core.Path.{◌≡◌}
use mathlib.Core.Logic.{◌⊎◌, inl, inr}
use mathlib.Core.Bool.{Bool, not}
use mathlib.Core.List.{List, [], ◌∷◌, ◌++◌, map}
use native.Mathlib.Omega.{arith}
use borrow.Author.Tests.{leb-true}
use lib.Dec.{leb}
use lib.ListN.{take, drop}
use Rattle.settings.specs.declared.Settings.{Settings}
use Rattle.journal.specs.declared.Call.{Call}
use Rattle.journal.specs.Kinds.{letter_s, letter_t}
use Rattle.store.specs.declared.Reading.{Reading}
use Rattle.store.specs.Lists.{Every, keep, modify}
use Rattle.store.specs.Order.{is_in}
use Rattle.store.specs.Sorted as sorted
use Rattle.store.proofs.Pairs.{every_to, every_append, every_keep, pairwise_append, pairwise_keep, every_map}
use Rattle.store.proofs.Keeping.{keep_passes}
use Rattle.protocol.specs.Kinds.{Kind, kind_of}
use Rattle.protocol.specs.Node.{Line, Node, no_line, reading_of, on_line}
use Rattle.protocol.specs.Refusals.{named_line, answer_to}
use Rattle.store.specs.Sizes.{readings_per_line}
use Rattle.protocol.specs.Rules.{without}
use Rattle.protocol.proofs.Letters.{kind_S, kind_T}
use Rattle.protocol.proofs.Acceptance.{ReadingFits, UndoFits, accepts_S, accepts_T, accepts_U}
use Rattle.node.specs.View.{view_line, view_lines}
use Rattle.node.specs.declared.LineHead.{LineHead}
use Rattle.node.proofs.Lists.{every_modify}
use Rattle.node.proofs.Shares.{SmallHead}
use Rattle.node.proofs.Shape.{HeadShape, ReadingShape, Rising, KeptShape}

abbrev pub UpTo : ℕ → Reading → Type 0
UpTo last r = r.id ≤ last

pub record LineShaped (l : Line) : Type 0 where
  pub stable : l.last_stable_id ≤ l.last_id
  pub readings : Every ReadingShape l.kept
  pub rising : sorted.Rising l.kept
  pub low : Every (UpTo l.last_id) l.kept

pub no_line_shaped : LineShaped no_line
unfolding no_line
no_line_shaped = record { stable = omega arith; readings = tt; rising = tt; low = tt }

-- ---- an input

-- a reading behind those that a line keeps
module _ (k : Call) (l : Line) (h : LineShaped l) (next : k.id ≡ l.last_id + 1) where
  behind_rising : sorted.Rising (l.kept ++ reading_of k ∷ [])
  unfolding reading_of
  behind_rising =
      pairwise_append (λ (r q : Reading). r.id < q.id) l.kept (reading_of k ∷ []) h.rising (tt, tt)
      (every_to l.kept (λ (r : Reading) (g : r.id ≤ l.last_id). (omega arith, tt)) h.low)

  behind_low : Every (UpTo k.id) (l.kept ++ reading_of k ∷ [])
  unfolding reading_of
  behind_low =
      every_append (UpTo k.id) l.kept (reading_of k ∷ [])
      (every_to l.kept (λ (r : Reading) (g : r.id ≤ l.last_id). omega arith) h.low) (omega arith, tt)

  behind_shaped : (k.kind ≡ letter_s) ⊎ (k.kind ≡ letter_t) → k.meter < 64 → Every ReadingShape (l.kept ++ reading_of k ∷ [])
  unfolding reading_of
  behind_shaped kind meter =
      every_append ReadingShape l.kept (reading_of k ∷ []) h.readings (record { kind = kind; meter = meter }, tt)

-- what an undo keeps
kept_low : (id : ℕ) (rs : List Reading) → Every (UpTo id) (keep (λ (r : Reading). leb r.id id) rs)
kept_low id rs =
    every_to (keep (λ (r : Reading). leb r.id id) rs) (λ r e. leb-true r.id id e) (keep_passes (λ (r : Reading). leb r.id id) rs)

module _ (s : Settings) (n : Node) (k : Call) (answered : answer_to s n k ≡ 0) (h : LineShaped (named_line n k)) where
  pub line_shaped : (kind : Kind) → kind_of k.kind ≡ kind → LineShaped (on_line k kind (named_line n k))
  unfolding on_line
  line_shaped Kind.S e =
      let f : ReadingFits s n k = ((accepts_S s n k e).0 answered).0 in
      record {
        stable = omega arith;
        readings = behind_shaped k (named_line n k) h f.next_id (inl (kind_S k.kind e)) f.of_meter;
        rising = behind_rising k (named_line n k) h f.next_id;
        low = behind_low k (named_line n k) h f.next_id;
      }
  line_shaped Kind.T e =
      let f : ReadingFits s n k = (accepts_T s n k e).0 answered in
      record {
        stable = omega (arith, h.stable, f.next_id);
        readings = behind_shaped k (named_line n k) h f.next_id (inr (kind_T k.kind e)) f.of_meter;
        rising = behind_rising k (named_line n k) h f.next_id;
        low = behind_low k (named_line n k) h f.next_id;
      }
  line_shaped Kind.B e = record { stable = h.stable; readings = h.readings; rising = h.rising; low = h.low }
  line_shaped Kind.U e =
      let f : UndoFits s n k = (accepts_U s n k e).0 answered in
      let test : Reading → Bool = λ (r : Reading). leb r.id k.id in
      record {
        stable = f.not_stable;
        readings = every_keep ReadingShape test (named_line n k).kept h.readings;
        rising = pairwise_keep (λ (r q : Reading). r.id < q.id) test (named_line n k).kept h.rising;
        low = kept_low k.id (named_line n k).kept;
      }
  line_shaped Kind.R e = h
  line_shaped Kind.P e = h

pub lines_shaped :
    (s : Settings) (n : Node) (k : Call) → answer_to s n k ≡ 0 → (kind : Kind) → kind_of k.kind ≡ kind → Every LineShaped n.lines →
    Every LineShaped (modify (on_line k kind) (k.line - 1) n.lines)
unfolding named_line
lines_shaped s n k answered kind e h =
    every_modify LineShaped (on_line k kind) no_line (k.line - 1) n.lines (λ g. line_shaped s n k answered g kind e) h

-- ---- a bucket taken out

without_shaped : (s : Settings) (j : ℕ) (l : Line) → LineShaped l → LineShaped (without s j l)
unfolding without
without_shaped s j l h =
    let test : Reading → Bool = λ (r : Reading). not (is_in s.bucket j r) in
    record {
      stable = h.stable;
      readings = every_keep ReadingShape test l.kept h.readings;
      rising = pairwise_keep (λ (r q : Reading). r.id < q.id) test l.kept h.rising;
      low = every_keep (UpTo l.last_id) test l.kept h.low;
    }

pub all_without_shaped : (s : Settings) (j : ℕ) (ls : List Line) → Every LineShaped ls → Every LineShaped (map (without s j) ls)
all_without_shaped s j ls h = every_map (without s j) LineShaped ls (every_to ls (without_shaped s j) h)

-- ---- as refusal 4 asks for it

rising_next : (rs : List Reading) → sorted.Rising rs → Rising rs
rising_next [] h = tt
rising_next (r ∷ []) h = tt
rising_next (r ∷ q ∷ rs) h = (h.0.0, rising_next (q ∷ rs) h.1)

pub kept_shape : (l : Line) → LineShaped l → KeptShape l
kept_shape l h = record { readings = h.readings; rising = rising_next l.kept h.rising }

-- the heads of the lines that state and store stand for
pub heads_shape :
    (n : ℕ) (hs : List LineHead) (rs : List Reading) → Every SmallHead (take n hs) → Every LineShaped (view_lines n hs rs) →
    Every HeadShape (take n hs)
unfolding view_lines view_line
heads_shape zero hs rs f h = tt
heads_shape (suc n) [] rs f h = tt
heads_shape (suc n) (x ∷ hs) rs f h =
    (record { kept = f.0; stable = h.0.stable }, heads_shape n hs (drop readings_per_line rs) f.1 h.1)
