-- The characters of a value, one at a time and up to the quote that ends them.
use Rattle.std.specs.Prelude.{Option, Some, None}
use Prim.Native.Nat.{ℕ, zero, suc, ◌+◌, ◌≤◌, ◌<◌}
use mathlib.Core.Path.{◌≡◌, refl, sym, subst}
use mathlib.Core.Bool.{Bool, true, false, not, ◌&&◌}
use mathlib.Core.List.{List}
use native.Mathlib.Omega.{arith}
use borrow.Author.Tests.{not-true}
use lib.Dec.{eqb}
use lib.ListN.{length, get_or}
use Rattle.rules.specs.Parsers.{Parser, ◌or◌, one, byte, literal}
use Rattle.rules.specs.Markup.{is_plain, reference, noncharacter, char, text}
use Rattle.rules.proofs.Tests.{both_true}
use Rattle.text.specs.Reads.{Good, Reads, upto, none}
use Rattle.text.proofs.Reading.{here, then, then_not, last, first, second, one_no}
use Rattle.markup.specs.Values.{CharBy, char_is, no_char, stands_for, is_simple, ReadsText, TextOn}

-- what an answer says once its case is known
pub char-answer : {P : Parser ℕ} {s : List ℕ} {at : ℕ} {r x : Option (ℕ × ℕ)} → r ≡ x → CharBy P s at r → CharBy P s at x
char-answer {P} {s} {at} q h = subst (λ (y : Option (ℕ × ℕ)). CharBy P s at y) q h

pub char_good : {P : Parser ℕ} {s : List ℕ} {at c e : ℕ} → CharBy P s at (Some (c, e)) → Good 1 P s at e
char_good (char_is c e l h q) = record { low = omega arith; high = h; value = c; reads = q }

pub char-none : {P : Parser ℕ} {s : List ℕ} {at : ℕ} → CharBy P s at None → Reads 1 P s at None
char-none (no_char h) = none h

-- one byte that passes a test
pub char-one : (p : ℕ → Bool) (s : List ℕ) (at : ℕ) → at < length s → p (get_or s at 0) ≡ true → CharBy (one p) s at (Some (get_or s at 0, at + 1))
unfolding one
char-one p s at h e = char_is (get_or s at 0) (at + 1) (omega arith) (omega arith) (rw (here s at h, e))

pub char_no : {P : Parser ℕ} {k : ℕ} {s : List ℕ} {at : ℕ} → Reads k P s at None → CharBy P s at None
char_no (none h) = no_char h

-- one reading, or else the other
module _ (P Q : Parser ℕ) {s : List ℕ} {at : ℕ} where
  pub char-first : {c e : ℕ} → CharBy P s at (Some (c, e)) → CharBy (P or Q) s at (Some (c, e))
  char-first (char_is c e l h q) = char_is c e l h (rw q)

  pub char-second : {r : Option (ℕ × ℕ)} → CharBy P s at None → CharBy Q s at r → CharBy (P or Q) s at r
  char-second (no_char b) (char_is c e l h q) = char_is c e l h (rw b q)
  char-second (no_char b) (no_char h) = no_char (rw b h)

-- bytes that stand for one
module _ (t : List ℕ) (c : ℕ) {k : ℕ} {s : List ℕ} {at : ℕ} where
  pub written_yes : {e : ℕ} → 1 ≤ k → Good k (literal t) s at e → CharBy (stands_for t c) s at (Some (c, e))
  written_yes {e} l g = char_is c e (omega (arith, g.low)) g.high (rw g.reads)

  pub written_no : Reads k (literal t) s at None → CharBy (stands_for t c) s at None
  written_no (none h) = no_char (rw h)

-- a character of a value
module _ {k : ℕ} {s : List ℕ} {at : ℕ} where
  pub char-outside : {e : ℕ} → Reads k noncharacter s at (Some e) → CharBy char s at None
  unfolding char
  char-outside (upto e g) = no_char (rw g.reads)

  pub char-inside : {r : Option (ℕ × ℕ)} → Reads k noncharacter s at None → CharBy (one is_plain or reference) s at r → CharBy char s at r
  unfolding char
  char-inside (none b) (char_is c e l h q) = char_is c e l h (rw b q)
  char-inside (none b) (no_char h) = no_char (rw b h)

-- the quote, a character and others after it, or neither
pub text-end : {s : List ℕ} {i e : ℕ} → Good 1 (byte 34) s i e → ReadsText s i (Some e)
unfolding text
text-end q zero h = absurd (omega (arith, q.low, q.high))
text-end {e = e} q (suc f) h = first _ _ (last _ _ (upto e q))

module _ {s : List ℕ} {i : ℕ} (q : Reads 1 (byte 34) s i None) where
  pub text_more : {e : ℕ} → Good 1 char s i e → (r : Option ℕ) → ReadsText s e r → ReadsText s i r
  unfolding text
  text_more g r t zero h = absurd (omega (arith, g.low, g.high))
  text_more g r t (suc f) h = second _ _ (last _ _ q) (then _ _ g (λ a p. last _ _ (t f (omega (arith, g.low)))))

  pub text-not : Reads 1 char s i None → ReadsText s i None
  unfolding text
  text-not b zero h = none refl
  text-not b (suc f) h = second _ _ (last _ _ q) (then_not _ _ b)

pub on_none : (s : List ℕ) (at : ℕ) → at ≤ length s → TextOn s at at
on_none s at h = record { low = omega arith; high = h; on = λ r t. t }

-- characters, and one character more
pub on_more : {s : List ℕ} {at i j e : ℕ} → TextOn s at i → TextOn s i j → Reads 1 (byte 34) s j None → Good 1 char s j e → TextOn s at e
on_more a b q g = record {
  low = omega (arith, a.low, b.low, g.low);
  high = g.high;
  on = λ r t. a.on r (b.on r (text_more q g r t));
}

-- a simple byte is a character
module _ (s : List ℕ) (i : ℕ) (h : i < length s) (e : is_simple (get_or s i 0) ≡ true) where
  differs : (b : ℕ) → eqb (get_or s i 0) b ≡ false → Reads 1 (byte b) s i None
  differs b d = one_no (λ c. eqb c b) s i h d

  inside : eqb (get_or s i 0) 0xEF ≡ false → Reads 1 noncharacter s i None
  unfolding noncharacter literal
  inside d = second _ _ (then_not _ _ (differs 0xEF d)) (then_not _ _ (differs 0xEF d))

  pub not_quote : Reads 1 (byte 34) s i None
  not_quote =
      let (m, n) = both_true (is_plain (get_or s i 0) && not (eqb (get_or s i 0) 34)) (not (eqb (get_or s i 0) 0xEF)) e in
      let (p, q) = both_true (is_plain (get_or s i 0)) (not (eqb (get_or s i 0) 34)) m in
      differs 34 (not-true _ q)

  pub simple_char : CharBy char s i (Some (get_or s i 0, i + 1))
  simple_char =
      let (m, n) = both_true (is_plain (get_or s i 0) && not (eqb (get_or s i 0) 34)) (not (eqb (get_or s i 0) 0xEF)) e in
      let (p, q) = both_true (is_plain (get_or s i 0)) (not (eqb (get_or s i 0) 34)) m in
      char-inside (inside (not-true _ n)) (char-first _ _ (char-one is_plain s i h p))

  pub on_simple : {at : ℕ} → TextOn s at i → TextOn s at (i + 1)
  on_simple a = on_more a (on_none s i (omega arith)) not_quote (char_good simple_char)
