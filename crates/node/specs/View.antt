-- What is held and the stores stand for, and a node laid into them again (document 01, section 'Store and output area'; document 02, W2).
use Rattle.std.specs.Prelude.{ℕ, zero, suc, ◌*◌, ◌-◌, ◌≡◌, max, List, [], ◌∷◌, ◌++◌, length, take, drop, replicate}
use Rattle.area.specs.Laid.{in_front}
use Rattle.store.specs.declared.Reading.{Reading}
use Rattle.protocol.specs.Node.{Line, Node}
use Rattle.store.specs.Sizes.{readings_per_line}
use Rattle.store.specs.Columns.{Columns, rows, with_rows, zeroed}
use Rattle.store.specs.Lent.{columns, SameLoans}
use Rattle.node.specs.declared.LineHead.{LineHead}
use Rattle.node.specs.declared.Stores.{Stores}
use Rattle.node.specs.Held.{Held}

-- the two lent stores: readings, and results to be sent back
pub record Lent : Type 0 where
  pub readings : Columns
  pub sent : List ℕ

abbrev pub lent_of : Columns → List ℕ → Lent
lent_of readings sent = record { readings = readings; sent = sent }

-- what stands in the lent slices
abbrev pub lent : Stores → Lent
lent x = lent_of (columns x.readings) x.sent.now

-- the same slices are lent
abbrev pub SameStores : Stores → Stores → Type 0
SameStores x y = SameLoans x.readings y.readings × (y.sent.ghost_name ≡ x.sent.ghost_name)

-- ---- what they stand for

-- a line: its head, and its kept readings, which fill the first places of its share
unfoldable pub view_line : LineHead → List Reading → Line
view_line h share =
    record {
      boundary = h.boundary;
      last_id = h.last_id;
      last_stable_id = h.last_stable_id;
      kept = take h.kept share;
    }

-- the first n lines; shares stand in line order
unfoldable pub view_lines : ℕ → List LineHead → List Reading → List Line
view_lines zero hs rs = []
view_lines (suc n) [] rs = []
view_lines (suc n) (h ∷ hs) rs = view_line h (take readings_per_line rs) ∷ view_lines n hs (drop readings_per_line rs)

-- the places of the lines' shares
unfoldable pub places : Held → ℕ
places st = st.settings.lines * readings_per_line

unfoldable pub view : Held → Columns → Node
view st x =
    record {
      clock = st.clock;
      c = st.c;
      p = st.p;
      phase = st.phase;
      operator = st.operator;
      checkpoint = st.checkpoint;
      lines = view_lines st.settings.lines st.heads (rows x (places st));
      acknowledged = take st.settings.displays st.acknowledged;
    }

-- ---- a node laid into them

unfoldable pub head_of : Line → LineHead
head_of l =
    record { boundary = l.boundary; last_id = l.last_id; last_stable_id = l.last_stable_id; kept = length l.kept }

-- the heads of these lines, and those past them as they were
unfoldable pub heads_with : List LineHead → List Line → List LineHead
heads_with hs [] = hs
heads_with [] (l ∷ ls) = []
heads_with (h ∷ hs) (l ∷ ls) = head_of l ∷ heads_with hs ls

-- a share that kept n readings and now keeps these: places given up are zeroed, the rest is as it was
unfoldable pub share_with : List Reading → ℕ → List Reading → List Reading
share_with share n kept = kept ++ (replicate (n - length kept) zeroed ++ drop (max n (length kept)) share)

unfoldable pub shares_with : List LineHead → List Reading → List Line → List Reading
shares_with hs rs [] = rs
shares_with [] rs (l ∷ ls) = rs
shares_with (h ∷ hs) rs (l ∷ ls) =
    share_with (take readings_per_line rs) h.kept l.kept ++ shares_with hs (drop readings_per_line rs) ls

unfoldable pub put_state : Held → Node → Held
put_state st n =
    record {
      operator = n.operator;
      checkpoint = n.checkpoint;
      heads = heads_with st.heads n.lines;
      settings = st.settings;
      clock = n.clock;
      c = n.c;
      p = n.p;
      phase = n.phase;
      acknowledged = in_front n.acknowledged st.acknowledged;
    }

-- a state with other last ids of the displays
abbrev pub with_acknowledged : List ℕ → Held → Held
with_acknowledged ids st =
    record {
      operator = st.operator;
      checkpoint = st.checkpoint;
      heads = st.heads;
      settings = st.settings;
      clock = st.clock;
      c = st.c;
      p = st.p;
      phase = st.phase;
      acknowledged = ids;
    }

unfoldable pub put_columns : Held → Columns → Node → Columns
put_columns st x n = with_rows x (shares_with st.heads (rows x (places st)) n.lines)
