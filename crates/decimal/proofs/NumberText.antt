-- What a text spells is what is written there. Soundness: digits behind a number a ≥ 1 are the digits of the number that they make of it, so
-- a run that does not begin with 0 is the text of its value. Completeness: the digits of v are a run of value v.
use mathlib.Core.Path.{◌≡◌, refl, sym, ap, ◌∙◌}
use mathlib.Core.Logic.{⊎_elim}
use mathlib.Core.Bool.{true, false}
use mathlib.Core.List.{List, [], ◌∷◌, ◌++◌, append-nil}
use Prim.Native.Nat.{ℕ, zero, suc, ◌+◌, ◌-◌, ◌*◌, ◌/◌, ◌%◌, ◌<◌, ◌≤◌, ◌^◌}
use native.Mathlib.Nat.{pow-suc}
use native.Mathlib.Omega.{arith}
use lib.ListN.{length, get_or, drop, take, take-append-drop}
use lib.Seq.{append_snoc, drop-drop, drop-append_seam, length-take-le}
use Rattle.std.specs.Prelude.{Some}
use Rattle.decimal.specs.Decimal.{digits_within, digits}
use Rattle.decimal.specs.Spelled.{is_digit, NoDigit, run_length, run_value, misspelled, number_at}
use Rattle.decimal.proofs.Digits.{one_or_more, within_one, within_more, tenth_below, digits_one, digits_behind, digits_some, length_snoc}
use Rattle.decimal.proofs.Runs.{is_digit_lem, digit_range, no_run, no_value, run_begins, run_digit, value_digit, run_short, value_grows}
use Rattle.decimal.proofs.Numbers.{well_spelled, spelled, number_value, number_run, number_end}

-- ---- soundness

-- a run behind the digits of a number: the digits of one number, but for a run behind 0
run_behind :
    (a : ℕ) (t : List ℕ) → (a ≡ 0 → run_length t ≡ 0) → run_value a t < 10 ^ 20 → digits (run_value a t) ≡ digits a ++ take (run_length t) t
unfolding run_value run_length
run_behind a [] z h = sym (append-nil (digits a))
run_behind a (b ∷ t) z h =
    (elim (is_digit b) as (λ x. is_digit b ≡ x → digits (run_value a (b ∷ t)) ≡ digits a ++ take (run_length (b ∷ t)) (b ∷ t)) [
      | true ↦ λ e.
          let d = b - 48 in
          let l : run_value (a * 10 + d) t < 10 ^ 20 = rw (value_digit a b t e) at h in
          let r = digit_range b e in
          let p : a ≡ 0 → ⊥ = λ q. absurd (omega (arith, z q, run_digit b t e)) in
          let k : 48 + d ≡ b = omega arith in
          rw e
          (run_behind (a * 10 + d) t (λ q. absurd (omega arith)) l
          ∙ rw (digits_behind a d (omega arith) (omega arith) (omega (arith, value_grows (a * 10 + d) t)), k)
          (append_snoc (digits a) b (take (run_length t) t)))
      | false ↦ λ e. rw e (sym (append-nil (digits a)))
    ])
    refl

-- a run that is spelled well is the text of its value
spelled_text : (t : List ℕ) → misspelled t ≡ false → run_value 0 t < 10 ^ 20 → digits (run_value 0 t) ≡ take (run_length t) t
spelled_text [] m h = absurd (omega (arith, (spelled [] m).0, run_short []))
spelled_text (b ∷ t) m h =
    let p = spelled (b ∷ t) m in
    let e : is_digit b ≡ true = run_begins (b ∷ t) p.0 in
    let r = digit_range b e in
    let k : 48 + (b - 48) ≡ b = omega arith in
    let v : run_value 0 (b ∷ t) ≡ run_value (b - 48) t = value_digit 0 b t e ∙ ap (λ (n : ℕ). run_value n t) (omega arith) in
    let l : run_value (b - 48) t < 10 ^ 20 = rw v at h in
    rw (v, run_digit b t e)
    (run_behind (b - 48) t (λ q. omega (arith, p.1 (omega arith), run_digit b t e)) l
    ∙ rw (digits_one (b - 48) (omega arith), k))

-- a number that was read stands there as it is written
pub number_sound :
    (most : ℕ) (s : List ℕ) (at v e : ℕ) → most < 2 ^ 64 → number_at most s at ≡ Some (v, e) →
    (drop at s ≡ digits v ++ drop e s) × (v ≤ most) × (e ≡ at + length (digits v)) × (e ≤ length s)
number_sound most s at v e l q =
    let t = drop at s in
    let r = number_run most s at v e q in
    let d : digits v ≡ take (run_length t) t = ap digits r.2 ∙ spelled_text t r.0 (omega arith) in
    let n : length (digits v) ≡ run_length t = ap length d ∙ length-take-le (run_length t) t (run_short t) in
    let f : drop (run_length t) t ≡ drop e s = rw r.3 (drop-drop (run_length t) at s) in (
      sym (take-append-drop (run_length t) t) ∙ rw (d, f),
      omega arith,
      omega arith,
      number_end most s at v e q,
    )

-- ---- completeness

-- a text that reads as v, whatever stands behind it, and begins with 0 only where v is 0
abbrev ReadsAs : ℕ → List ℕ → Type 0
ReadsAs v d =
    (r : List ℕ) →
    (run_length (d ++ r) ≡ length d + run_length r) × (run_value 0 (d ++ r) ≡ run_value v r) × (get_or (d ++ r) 0 0 ≡ 48 → v ≡ 0)

reads_one : (v : ℕ) → v < 10 → ReadsAs v ((48 + v) ∷ [])
reads_one v h r =
    let e : is_digit (48 + v) ≡ true = is_digit_lem (48 + v) (omega arith) (omega arith) in (
      omega (arith, run_digit (48 + v) r e),
      value_digit 0 (48 + v) r e ∙ ap (λ (n : ℕ). run_value n r) (omega arith),
      λ q. omega arith,
    )

reads_more : (v : ℕ) (d : List ℕ) → 10 ≤ v → ReadsAs (v / 10) d → ReadsAs v (d ++ ((48 + v % 10) ∷ []))
reads_more v d g i r =
    let b = 48 + v % 10 in
    let e : is_digit b ≡ true = is_digit_lem b (omega arith) (omega arith) in
    let p = i (b ∷ r) in
    rw (append_snoc d b r) (
      omega (arith, p.0, run_digit b r e, length_snoc d b),
      p.1 ∙ value_digit (v / 10) b r e ∙ ap (λ (n : ℕ). run_value n r) (omega arith),
      λ q. absurd (omega (arith, p.2 q)),
    )

within_reads : (k v : ℕ) → v < 10 ^ suc k → ReadsAs v (digits_within (suc k) v)
within_reads zero v h = let l : v < 10 = omega (arith, pow-suc 10 0, h) in rw (within_one 0 v l) (reads_one v l)
within_reads (suc k) v h =
    ⊎_elim
    (λ l. rw (within_one (suc k) v l) (reads_one v l))
    (λ g. rw (within_more (suc k) v g) (reads_more v (digits_within (suc k) (v / 10)) g (within_reads k (v / 10) (tenth_below (suc k) v h))))
    (one_or_more v)

digits_read : (v : ℕ) → v < 10 ^ 20 → ReadsAs v (digits v)
unfolding digits
digits_read v h = within_reads 19 v h

-- the text of a number begins with a digit
pub digits_begin : (v : ℕ) (r : List ℕ) → v < 10 ^ 20 → is_digit (get_or (digits v ++ r) 0 0) ≡ true
digits_begin v r h = run_begins (digits v ++ r) (omega (arith, (digits_read v h r).0, digits_some v))

-- a number that stands there, with no digit behind it, is read
pub number_complete :
    (most : ℕ) (s : List ℕ) (at v : ℕ) (r : List ℕ) → drop at s ≡ digits v ++ r → NoDigit r → v ≤ most → most < 2 ^ 64 →
    number_at most s at ≡ Some (v, at + length (digits v))
number_complete most s at v r e n h l =
    let t = drop at s in
    let p = digits_read v (omega arith) r in
    let k : run_length t ≡ length (digits v) = ap run_length e ∙ omega (arith, p.0, no_run r n) in
    let w : run_value 0 t ≡ v = ap (run_value 0) e ∙ p.1 ∙ no_value v r n in
    let z : get_or t 0 0 ≡ 48 → run_length t ≤ 1 =
    λ q. let o : v ≡ 0 = p.2 (rw e at q) in omega (arith, ap length (digits_one v (omega arith))) in
    cc (number_value most s at (well_spelled t (omega (arith, digits_some v)) z) (omega arith))

-- claims of their own: a number behind any text reads back as written
pub number_reads_back :
    (most : ℕ) (p : List ℕ) (v : ℕ) (r : List ℕ) → NoDigit r → v ≤ most → most < 2 ^ 64 →
    number_at most (p ++ (digits v ++ r)) (length p) ≡ Some (v, length p + length (digits v))
number_reads_back most p v r n h l =
    number_complete most (p ++ (digits v ++ r)) (length p) v r (drop-append_seam p (digits v ++ r)) n h l

-- and two numbers have one text only where they are equal
pub digits_injective : (m n : ℕ) → m < 2 ^ 64 → n < 2 ^ 64 → digits m ≡ digits n → m ≡ n
unfolding run_value
digits_injective m n h l e =
    sym (digits_read m (omega arith) []).1 ∙ ap (λ (d : List ℕ). run_value 0 (d ++ [])) e ∙ (digits_read n (omega arith) []).1
