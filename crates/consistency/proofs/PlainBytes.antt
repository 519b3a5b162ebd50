-- The store and what is fetched, by places and byte by byte: a place is 32 bytes, and a list is what its bytes are.
use Prim.Native.Nat.{ℕ, zero, suc, ◌+◌, ◌-◌, ◌*◌, ◌/◌, ◌%◌, ◌≤◌, ◌<◌, min}
use mathlib.Core.Path.{◌≡◌, refl, sym, ◌∙◌, ap}
use mathlib.Core.Bool.{true, true≢false}
use mathlib.Core.List.{List, [], ◌∷◌, ◌++◌, map}
use mathlib.Core.Logic.{◌↔◌}
use native.Mathlib.Omega.{arith}
use native.Mathlib.Nat.{mod-lt}
use borrow.Author.Tests.{leb-true, le-leb}
use lib.Dec.{leb}
use lib.ListN.{length, take, drop, get_or, replicate, length-drop, length-take, length-map, length-replicate, get_or-replicate, get_or-append}
use lib.Seq.{get_or-take, get_or-drop, get_or-append-add, length-take-le, ext_get_or}
use Rattle.settings.specs.declared.Settings.{Settings}
use Rattle.record.specs.declared.Record.{Record}
use Rattle.record.specs.Layout.{bytes_of, all_bytes}
use Rattle.record.proofs.BytesOf.{length_bytes_of}
use Rattle.store.proofs.Choices.{and_parts, false_unless}
use Rattle.retransmission.specs.Places.{pieces}
use Rattle.retransmission.proofs.Stores.{length_pieces, pieces_at}
use Rattle.node.specs.Sizes.{area_bytes}
use Rattle.node.specs.Calls.{Called}
use Rattle.consistency.specs.Runs.{Input}
use Rattle.consistency.specs.Demand.{Handed, failure_free_bytes}
use Rattle.consistency.specs.Plain.{Run, results_on}
use Rattle.consistency.specs.PlainSentBack.{wanted, held}
use Rattle.consistency.specs.PlainSentBack.{StoreOn, FetchOn}
use Rattle.consistency.specs.SentBack.{least_in, newest_in, IsHeld, place_in, Stored, FetchedFrom}

-- ---- bytes

-- byte j of result q + 1
result_byte : (rs : List Record) (q j : ℕ) → j < 32 → get_or (all_bytes rs) (32 * q + j) 0 ≡ get_or (get_or (map bytes_of rs) q []) j 0
unfolding all_bytes
result_byte [] q j l = refl
result_byte (r ∷ rs) zero j l =
    let e : 32 * 0 + j ≡ j = omega arith in
    ap (λ (i : ℕ). get_or (bytes_of r ++ all_bytes rs) i 0) e ∙
    get_or-append (bytes_of r) (all_bytes rs) 0 j (omega (arith, length_bytes_of r))
result_byte (r ∷ rs) (suc q) j l =
    let e : 32 * suc q + j ≡ length (bytes_of r) + (32 * q + j) = omega (arith, length_bytes_of r) in
    ap (λ (i : ℕ). get_or (bytes_of r ++ all_bytes rs) i 0) e ∙
    get_or-append-add (bytes_of r) (all_bytes rs) (32 * q + j) 0 ∙ result_byte rs q j l

result_length : (rs : List Record) (q : ℕ) → q < length rs → length (get_or (map bytes_of rs) q []) ≡ 32
result_length [] q l = absurd (omega arith)
result_length (r ∷ rs) zero l = length_bytes_of r
result_length (r ∷ rs) (suc q) l = result_length rs q (omega arith)

-- byte j of place p
place_byte : (bytes : List ℕ) (p j : ℕ) → j < 32 → get_or (place_in bytes p) j 0 ≡ get_or bytes (32 * p + j) 0
unfolding place_in
place_byte bytes p j l =
    let e : p * 32 + j ≡ 32 * p + j = omega arith in
    get_or-take 32 (drop (p * 32) bytes) j 0 l ∙ get_or-drop (p * 32) bytes j 0 ∙ ap (λ (i : ℕ). get_or bytes i 0) e

place_length : (bytes : List ℕ) (p : ℕ) → 32 * p + 32 ≤ length bytes → length (place_in bytes p) ≡ 32
unfolding place_in
place_length bytes p l = length-take-le 32 (drop (p * 32) bytes) (omega (arith, length-drop (p * 32) bytes))

-- a byte's place
split : (i : ℕ) → 32 * (i / 32) + i % 32 ≡ i
split i = omega arith

-- the place of 32 bytes that are a result's
place_is :
    (bytes : List ℕ) (rs : List Record) (p q : ℕ) → 32 * p + 32 ≤ length bytes → q < length rs →
    ((j : ℕ) → j < 32 → get_or bytes (32 * p + j) 0 ≡ get_or (all_bytes rs) (32 * q + j) 0) → place_in bytes p ≡ get_or (map bytes_of rs) q []
place_is bytes rs p q room l same =
    ext_get_or 0 (place_in bytes p) (get_or (map bytes_of rs) q []) (place_length bytes p room ∙ sym (result_length rs q l))
    (λ j h.
    let small : j < 32 = omega (arith, place_length bytes p room) in
    place_byte bytes p j small ∙ same j small ∙ result_byte rs q j small)

byte_is :
    (bytes : List ℕ) (rs : List Record) (p q j : ℕ) → j < 32 → place_in bytes p ≡ get_or (map bytes_of rs) q [] →
    get_or bytes (32 * p + j) 0 ≡ get_or (all_bytes rs) (32 * q + j) 0
byte_is bytes rs p q j l e = sym (place_byte bytes p j l) ∙ ap (λ (b : List ℕ). get_or b j 0) e ∙ sym (result_byte rs q j l)

-- ---- after a list, by either text

-- the results and what is wanted of them are the same
pub record Alike (h : Handed) (is : List Input) (s : Settings) (y : Run) (last : ℕ → ℕ) : Type 0 where
  pub bytes : failure_free_bytes h is ≡ map bytes_of (results_on s y)
  pub wants : (n : ℕ) → (wanted s.displays last n ≡ true) ↔ (least_in h is < n)

module _ (h : Handed) (is : List Input) (s : Settings) (y : Run) (last : ℕ → ℕ) (v : Alike h is s y last) where
  pub newest_is : newest_in h is ≡ length (results_on s y)
  unfolding newest_in
  newest_is = ap length v.bytes ∙ length-map (results_on s y) bytes_of

  held_is : (n : ℕ) → (held s y last n ≡ true) ↔ IsHeld h is n
  unfolding held
  held_is n = (
    λ e.
        let p = and_parts (wanted s.displays last n) (leb n (length (results_on s y))) e in
        let high : n ≤ length (results_on s y) = leb-true _ _ p.1 in
        ((v.wants n).0 p.0, omega (arith, newest_is)),
    λ p. rw ((v.wants n).1 p.0, le-leb n (length (results_on s y)) (omega (arith, p.1, newest_is))),
  )

  -- ---- the store

  abbrev sent : List ℕ
  sent = y.lent.sent

  pub plain_store : Stored h is sent → StoreOn s y last h.lent.sent
  plain_store t =
      record {
        byte = λ m i l e.
            let q = 512 * m + i / 32 in
            let place : (q + 1 - 1) % 512 ≡ i / 32 = omega arith in
            let one : q + 1 - 1 ≡ q = omega arith in
            let there : place_in sent (i / 32) ≡ get_or (map bytes_of (results_on s y)) q [] =
            ap (place_in sent) (sym place) ∙ t.held (q + 1) ((held_is (q + 1)).0 e) ∙
            ap (λ (bs : List (List ℕ)). get_or bs (q + 1 - 1) []) v.bytes ∙
            ap (λ (k : ℕ). get_or (map bytes_of (results_on s y)) k []) one in
            let far : 32 * q + i % 32 ≡ 16384 * m + i = omega arith in
            ap (λ (k : ℕ). get_or sent k 0) (sym (split i)) ∙
            byte_is sent (results_on s y) (i / 32) q (i % 32) (mod-lt i (omega arith)) there ∙
            ap (λ (k : ℕ). get_or (all_bytes (results_on s y)) k 0) far;
        none = λ i l free.
            let small : i % 32 < 32 = mod-lt i (omega arith) in
            let there : place_in sent (i / 32) ≡ replicate 32 0 =
            t.empty (i / 32) (omega arith)
            (λ n w e.
            let same : 512 * ((n - 1) / 512) + i / 32 + 1 ≡ n = omega (arith, w.0, e) in
            true≢false (sym ((held_is n).1 w) ∙ ap (held s y last) (sym same) ∙ free ((n - 1) / 512))) in
            ap (λ (k : ℕ). get_or sent k 0) (sym (split i)) ∙ sym (place_byte sent (i / 32) (i % 32) small) ∙
            ap (λ (b : List ℕ). get_or b (i % 32) 0) there ∙ get_or-replicate 32 (i % 32) 0 0 small;
        behind = λ i l.
            let far : 16384 + (i - 16384) ≡ i = omega arith in
            ap (λ (k : ℕ). get_or sent k 0) (sym far) ∙ sym (get_or-drop 16384 sent (i - 16384) 0) ∙
            ap (λ (b : List ℕ). get_or b (i - 16384) 0) t.behind ∙ get_or-drop 16384 h.lent.sent (i - 16384) 0 ∙
            ap (λ (k : ℕ). get_or h.lent.sent k 0) far;
        size = t.size;
        room = omega (arith, t.room, t.size);
      }

  pub stated_store : StoreOn s y last h.lent.sent → Stored h is sent
  stated_store t =
      record {
        held = λ n w.
            let p = (n - 1) % 512 in
            let m = (n - 1) / 512 in
            let small : p < 512 = mod-lt (n - 1) (omega arith) in
            place_is sent (results_on s y) p (n - 1) (omega (arith, t.size, t.room)) (omega (arith, w.0, w.1, newest_is))
            (λ j l.
            let same : 512 * m + (32 * p + j) / 32 + 1 ≡ n = omega (arith, w.0) in
            let far : 16384 * m + (32 * p + j) ≡ 32 * (n - 1) + j = omega arith in
            t.byte m (32 * p + j) (omega arith) (ap (held s y last) same ∙ (held_is n).1 w) ∙
            ap (λ (k : ℕ). get_or (all_bytes (results_on s y)) k 0) far) ∙
            ap (λ (bs : List (List ℕ)). get_or bs (n - 1) []) (sym v.bytes);
        empty = λ i l free.
            let size : length (place_in sent i) ≡ 32 = place_length sent i (omega (arith, t.size, t.room)) in
            ext_get_or 0 (place_in sent i) (replicate 32 0) (size ∙ sym (length-replicate {A = ℕ} 32 0))
            (λ j g.
            let small : j < 32 = omega (arith, size) in
            place_byte sent i j small ∙
            t.none (32 * i + j) (omega arith)
            (λ m.
            let n = 512 * m + (32 * i + j) / 32 + 1 in
            let place : (n - 1) % 512 ≡ i = omega arith in
            false_unless (held s y last n) (λ e. free n ((held_is n).0 e) place)) ∙
            sym (get_or-replicate 32 j 0 0 small));
        room = omega (arith, t.room, t.size);
        size = t.size;
        behind =
            ext_get_or 0 (drop 16384 sent) (drop 16384 h.lent.sent)
            (omega (arith, length-drop 16384 sent, length-drop 16384 h.lent.sent, t.size))
            (λ i l.
            get_or-drop 16384 sent i 0 ∙ t.behind (16384 + i) (omega arith) ∙ sym (get_or-drop 16384 h.lent.sent i 0));
      }

  -- ---- a fetch

  module _ (from : ℕ) (area : List ℕ) (r : Called) (some : 1 ≤ from) (room : area_bytes ≤ length area) where
    abbrev taken : List (List ℕ)
    taken = take 64 (drop (from - 1) (failure_free_bytes h is))

    length_taken : length taken ≡ min 64 (length (results_on s y) + 1 - from)
    unfolding newest_in
    length_taken =
        omega (
          arith,
          length-take 64 (drop (from - 1) (failure_free_bytes h is)),
          length-drop (from - 1) (failure_free_bytes h is),
          newest_is,
        )

    taken_at : (q : ℕ) → q < 64 → get_or taken q [] ≡ get_or (map bytes_of (results_on s y)) (from - 1 + q) []
    taken_at q l =
        get_or-take 64 (drop (from - 1) (failure_free_bytes h is)) q [] l ∙
        get_or-drop (from - 1) (failure_free_bytes h is) q [] ∙
        ap (λ (bs : List (List ℕ)). get_or bs (from - 1 + q) []) v.bytes

    piece_at : (k q : ℕ) (bytes : List ℕ) → q < k → get_or (pieces k bytes) q [] ≡ place_in bytes q
    unfolding place_in
    piece_at k q bytes l = pieces_at k q bytes l

    pub plain_fetch : FetchedFrom h is from area r → FetchOn s y from area r
    plain_fetch t =
        let count : r.records ≡ min 64 (length (results_on s y) + 1 - from) =
        sym (length_pieces r.records r.area) ∙ ap length t.records ∙ length_taken in
        record {
          records = count;
          byte = λ i l.
              let q = i / 32 in
              let there : place_in r.area q ≡ get_or (map bytes_of (results_on s y)) (from - 1 + q) [] =
              sym (piece_at r.records q r.area (omega arith)) ∙
              ap (λ (bs : List (List ℕ)). get_or bs q []) t.records ∙ taken_at q (omega (arith, count)) in
              let far : 32 * (from - 1 + q) + i % 32 ≡ 32 * (from - 1) + i = omega arith in
              ap (λ (k : ℕ). get_or r.area k 0) (sym (split i)) ∙
              byte_is r.area (results_on s y) q (from - 1 + q) (i % 32) (mod-lt i (omega arith)) there ∙
              ap (λ (k : ℕ). get_or (all_bytes (results_on s y)) k 0) far;
          behind = λ i l.
              let n = r.records * 32 in
              let far : n + (i - n) ≡ i = omega arith in
              ap (λ (k : ℕ). get_or r.area k 0) (sym far) ∙ sym (get_or-drop n r.area (i - n) 0) ∙
              ap (λ (b : List ℕ). get_or b (i - n) 0) t.rest ∙ get_or-drop n area (i - n) 0 ∙
              ap (λ (k : ℕ). get_or area k 0) far;
          size =
              omega (
                arith,
                ap length t.rest,
                length-drop (r.records * 32) r.area,
                length-drop (r.records * 32) area,
                count,
              );
        }

    pub stated_fetch : FetchOn s y from area r → FetchedFrom h is from area r
    stated_fetch t =
        record {
          records =
              ext_get_or [] (pieces r.records r.area) taken
              (length_pieces r.records r.area ∙ t.records ∙ sym length_taken)
              (λ q l.
              let near : q < r.records = omega (arith, length_pieces r.records r.area) in
              piece_at r.records q r.area near ∙
              place_is r.area (results_on s y) q (from - 1 + q) (omega (arith, t.records, t.size)) (omega (arith, t.records))
              (λ j small.
              let far : 32 * (from - 1) + (32 * q + j) ≡ 32 * (from - 1 + q) + j = omega arith in
              t.byte (32 * q + j) (omega arith) ∙ ap (λ (k : ℕ). get_or (all_bytes (results_on s y)) k 0) far) ∙
              sym (taken_at q (omega (arith, t.records))));
          rest =
              let n = r.records * 32 in
              ext_get_or 0 (drop n r.area) (drop n area) (omega (arith, length-drop n r.area, length-drop n area, t.size))
              (λ i l. get_or-drop n r.area i 0 ∙ t.behind (n + i) (omega arith) ∙ sym (get_or-drop n area i 0));
        }
