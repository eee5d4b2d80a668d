-- Fourteen digits: their two words, the second made up with two digits 0, and what is written.
use Prim.Native.Nat.{ℕ, zero, suc, ◌+◌, ◌*◌, ◌^◌, ◌≤◌, ◌<◌}
use mathlib.Core.Path.{◌≡◌, refl, sym, ◌∙◌, ap, ap₂, subst}
use mathlib.Core.Bool.{Bool, true, false}
use mathlib.Core.List.{List, [], ◌∷◌, ◌++◌}
use native.Mathlib.Nat.{pow-le-pow_right, lt_of_lt_of_le}
use native.Mathlib.Omega.{arith}
use borrow.Author.Tests.{lt-ltb}
use lib.ListN.{length, get_or, take, drop, length-append, length-take, length-drop, take-append-drop, drop_of_length-le}
use lib.Seq.{length-take-le, take-append-le, drop-append-le, take-take, drop-drop, take-add, take_all}
use Rattle.std.specs.Prelude.{Some, None}
use Rattle.rules.specs.Basics.{every, is_digit, decimal_from, decimal}
use Rattle.rules.specs.LentLists.{is_byte, unsigned}
use Rattle.rules.specs.Parsers.{ok}
use Rattle.rules.specs.Timestamp.{digits}
use Rattle.rules.proofs.Tests.{clash, every_true, every_append}
use Rattle.rules.proofs.Digits.{decimal-append, decimal-below}
use Rattle.text.specs.Numbers.{NumberAt, FractionBy}
use Rattle.text.specs.Words.{AreEight, PairsOf}
use Rattle.text.proofs.Numerals.{all-passed}
use Rattle.text.proofs.Lanes.{word_split, word_append}
use Rattle.timestamp.specs.Written.{PartsAt, ZoneBy, fraction_after, zone_after, FormOf}
use Rattle.timestamp.specs.declared.form.Written.{Written}
use Rattle.timestamp.proofs.Reading.{two_more, two_last, no_fraction, no_zone_lem}
use Rattle.timestamp.proofs.Whole.{whole-written}

-- the bytes of a clock, and two digits 0
abbrev pub padded : List ℕ → List ℕ
padded s = drop 8 s ++ (48 ∷ 48 ∷ [])

-- what is written by the numbers of fourteen digits
abbrev pub of_numbers : (year month day hour minute second : ℕ) → Written
of_numbers year month day hour minute second = record {
  year = year;
  parts = record { count = 5; month = month; day = day; hour = hour; minute = minute; second = second; end = 14 };
  fraction = record { value = 0; count = 0; end = 14 };
  zone = None;
}

abbrev written_in : List ℕ → Written
written_in s =
    of_numbers (decimal (take 4 s)) (decimal (take 2 (drop 4 s))) (decimal (take 2 (drop 6 s))) (decimal (take 2 (drop 8 s))) (decimal (take 2 (drop 10 s)))
    (decimal (take 2 (drop 12 s)))

-- a part of a beginning is a part of the whole
part_within : (k i n : ℕ) (l : List ℕ) → i + k ≤ n → take k (drop i (take n l)) ≡ take k (drop i l)
part_within k zero n l h = take-take k n l (omega arith)
part_within k (suc i) zero l h = absurd (omega arith)
part_within k (suc i) (suc n) [] h = refl
part_within k (suc i) (suc n) (c ∷ l) h = part_within k i n l (omega arith)

-- two digits, in the text and in its words
two-first : (s : List ℕ) → decimal (take 2 s) ≡ decimal (take 2 (take 8 s))
two-first s = ap decimal (sym (take-take 2 8 s (omega arith)))

two-within : (s : List ℕ) (i : ℕ) → i + 2 ≤ 8 → decimal (take 2 (drop i s)) ≡ decimal (take 2 (drop i (take 8 s)))
two-within s i h = ap decimal (sym (part_within 2 i 8 s h))

two-padded : (s : List ℕ) → length s ≡ 14 → (i : ℕ) → i + 2 ≤ 6 → decimal (take 2 (drop (8 + i) s)) ≡ decimal (take 2 (drop i (padded s)))
two-padded s size i h =
    let rest : length (drop 8 s) ≡ 6 = rw (length-drop 8 s) (omega arith) in
    ap decimal (sym (rw (
      drop-append-le i (drop 8 s) (48 ∷ 48 ∷ []) (omega (arith, rest)),
      take-append-le 2 (drop i (drop 8 s)) (48 ∷ 48 ∷ []) (rw (length-drop i (drop 8 s)) (omega (arith, rest))),
      drop-drop i 8 s,
    ) refl))

-- of a list that passes a test, every part does
every-parts : (p : ℕ → Bool) (a b : List ℕ) → every p (a ++ b) ≡ true → (every p a ≡ true) × (every p b ≡ true)
unfolding every
every-parts p [] b e = (refl, e)
every-parts p (c ∷ a) b e =
    let (f, g) = every_true p c (a ++ b) e in
    let (h, i) = every-parts p a b g in
    (rw (f, h) refl, i)

every-within : (p : ℕ → Bool) (n i : ℕ) (l : List ℕ) → every p l ≡ true → every p (take n (drop i l)) ≡ true
every-within p n i l e =
    let f : every p (drop i l) ≡ true = (every-parts p (take i l) (drop i l) (rw (take-append-drop i l) e)).1 in
    (every-parts p (take n (drop i l)) (drop n (drop i l)) (rw (take-append-drop n (drop i l)) f)).0

pub all-bytes : (l : List ℕ) → ((i : ℕ) → get_or l i 0 < 256) → every is_byte l ≡ true
unfolding every
all-bytes [] h = refl
all-bytes (b ∷ l) h = rw (lt-ltb b 256 (h 0), all-bytes l (λ i. h (suc i))) refl

-- two digits write less than a hundred
pub pair_most : (l : List ℕ) (i : ℕ) → every is_digit l ≡ true → decimal (take 2 (drop i l)) < 100
pair_most l i e =
    let d = every-within is_digit 2 i l e in
    let h : length (take 2 (drop i l)) ≤ 2 = omega (arith, length-take 2 (drop i l)) in
    lt_of_lt_of_le (decimal-below (take 2 (drop i l)) d) (pow-le-pow_right {n = 10} (omega arith) {i = length (take 2 (drop i l))} {j = 2} h)

module _ (s : List ℕ) (size : length s ≡ 14) where
  rest-size : length (drop 8 s) ≡ 6
  rest-size = rw (length-drop 8 s) (omega arith)

  -- the two words
  pub date_eight : every is_byte s ≡ true → AreEight (take 8 s)
  date_eight e = (length-take-le 8 s (omega arith), every-within is_byte 8 0 s e)

  pub clock_eight : every is_byte s ≡ true → AreEight (padded s)
  unfolding every
  clock_eight e = (
    length-append (drop 8 s) (48 ∷ 48 ∷ []) ∙ ap (λ (n : ℕ). n + 2) rest-size,
    every_append is_byte (drop 8 s) (48 ∷ 48 ∷ []) (every-parts is_byte (take 8 s) (drop 8 s) (rw (take-append-drop 8 s) e)).1 refl,
  )

  pub date_word : (a b : ℕ) → a ≡ unsigned (take 4 (drop 0 s)) → b ≡ unsigned (take 4 (drop 4 s)) → a + 0x1_0000_0000 * b ≡ unsigned (take 8 s)
  date_word a b e f = rw (e, f) (sym (word_split 4 4 s (omega arith)))

  pub clock_word : (a b : ℕ) → a ≡ unsigned (take 4 (drop 8 s)) → b ≡ unsigned (take 2 (drop 12 s))
      → a + 0x1_0000_0000 * (b + 0x3030_0000) ≡ unsigned (padded s)
  unfolding unsigned
  clock_word a b e f =
      let six : unsigned (drop 8 s) ≡ a + 0x1_0000_0000 * b
      = ap unsigned (sym (take_all 6 (drop 8 s) (omega (arith, rest-size)))) ∙ word_split 4 2 (drop 8 s) (omega (arith, rest-size)) ∙ rw (e, f, drop-drop 4 8 s) refl in
      let all : unsigned (padded s) ≡ unsigned (drop 8 s) + 256 ^ 6 * unsigned (48 ∷ 48 ∷ []) = rw rest-size at (word_append (drop 8 s) (48 ∷ 48 ∷ [])) in
      omega (arith, six, all)

  -- a byte that is no digit, in either word
  pub not-date : every is_digit (take 8 s) ≡ false → every is_digit s ≡ false
  not-date e = go (every is_digit s) refl
    where
      go : (x : Bool) → every is_digit s ≡ x → x ≡ false
      go true f = clash (cc (every-within is_digit 8 0 s f, e))
      go false f = refl

  pub not-clock : every is_digit (padded s) ≡ false → every is_digit s ≡ false
  unfolding every
  not-clock e = go (every is_digit s) refl
    where
      go : (x : Bool) → every is_digit s ≡ x → x ≡ false
      go true f =
          let rest = (every-parts is_digit (take 8 s) (drop 8 s) (rw (take-append-drop 8 s) f)).1 in
          clash (cc (every_append is_digit (drop 8 s) (48 ∷ 48 ∷ []) rest refl, e))
      go false f = refl

  -- all of them digits: each pair is a number
  module _ (date : every is_digit (take 8 s) ≡ true) (clock : every is_digit (padded s) ≡ true) where
    digits-all : every is_digit s ≡ true
    digits-all = rw (take-append-drop 8 s) at (every_append is_digit (take 8 s) (drop 8 s) date (every-parts is_digit (drop 8 s) (48 ∷ 48 ∷ []) clock).0)

    number : (at n : ℕ) → at + n ≤ 14 → NumberAt s at n (Some (decimal (take n (drop at s))))
    number at n h = all-passed s at n n (omega (arith, size)) (omega arith) (every-within is_digit n at s digits-all) (omega arith)

    year-is : decimal (take 4 s) ≡ 100 * decimal (take 2 s) + decimal (take 2 (drop 2 s))
    year-is =
        let two : length (take 2 (drop 2 s)) ≡ 2 = length-take-le 2 (drop 2 s) (rw (length-drop 2 s) (omega arith)) in
        let whole : decimal (take 2 s ++ take 2 (drop 2 s)) ≡ decimal (take 2 s) * 10 ^ 2 + decimal (take 2 (drop 2 s)) = rw two at (decimal-append (take 2 s) (take 2 (drop 2 s))) in
        ap decimal (take-add 2 2 s) ∙ omega (arith, whole)

    nothing : drop 14 s ≡ []
    nothing = drop_of_length-le s {i = 14} (omega arith)

    pair : (at : ℕ) → at + 2 ≤ 14 → digits 2 (drop at s) ≡ ok (decimal (take 2 (drop at s))) (drop (at + 2) s)
    pair at h = (number at 2 h).2

    parts : PartsAt s (written_in s).parts
    parts = record {
      list = decimal (take 2 (drop 4 s)) ∷ decimal (take 2 (drop 6 s)) ∷ decimal (take 2 (drop 8 s)) ∷ decimal (take 2 (drop 10 s)) ∷ decimal (take 2 (drop 12 s)) ∷ [];
      reads = two_more 4 _ _ (pair 4 (omega arith)) (two_more 3 _ _ (pair 6 (omega arith)) (two_more 2 _ _ (pair 8 (omega arith))
          (two_more 1 _ _ (pair 10 (omega arith)) (two_more 0 _ _ (pair 12 (omega arith)) (two_last (drop 14 s))))));
      parts = refl;
      few = omega arith;
      high = omega (arith, size);
    }

    fraction : FractionBy (fraction_after 5) s 14 (written_in s).fraction
    unfolding decimal_from
    fraction = record {
      list = [];
      reads = no_fraction s 14 nothing;
      value = refl;
      count = refl;
      few = omega arith;
      small = omega arith;
      high = omega (arith, size);
    }

    zone : ZoneBy (zone_after 5) s 14 (record { zone = None; end = 14 })
    zone = record { reads = no_zone_lem s 14 nothing; small = record {}; high = omega (arith, size) }

    pub fourteen_written_lem : FormOf s (Some (written_in s))
    fourteen_written_lem = whole-written s (decimal (take 4 s)) (number 0 4 (omega arith)) _ parts _ fraction (record { zone = None; end = 14 }) zone (sym size)

-- as the two words give the numbers
pub fourteen_read : (s : List ℕ) → length s ≡ 14 → (century rest month day hour minute second none : ℕ)
    → PairsOf (take 8 s) (Some (century, rest, month, day)) → PairsOf (padded s) (Some (hour, minute, second, none))
    → FormOf s (Some (of_numbers (100 * century + rest) month day hour minute second))
fourteen_read s size century rest month day hour minute second none d c =
    let year : decimal (take 4 s) ≡ 100 * century + rest
    = year-is s size d.0 c.0 ∙ ap₂ (λ (a b : ℕ). 100 * a + b) (two-first s ∙ sym d.1) (two-within s 2 (omega arith) ∙ sym d.2) in
    subst (λ (w : Written). FormOf s (Some w))
    (λ i. of_numbers (year i) ((two-within s 4 (omega arith) ∙ sym d.3) i) ((two-within s 6 (omega arith) ∙ sym d.4) i)
    ((two-padded s size 0 (omega arith) ∙ sym c.1) i) ((two-padded s size 2 (omega arith) ∙ sym c.2) i) ((two-padded s size 4 (omega arith) ∙ sym c.3) i))
    (fourteen_written_lem s size d.0 c.0)
