-- A law for each combinator of grammars: what the answers of readers that are called one after the other say together.
use Rattle.std.specs.Bool.{then_some}
use Rattle.std.specs.Prelude.{Option, Some, None}
use Prim.Native.Nat.{ℕ, zero, suc, ◌+◌, ◌-◌, ◌≤◌, ◌<◌}
use mathlib.Core.Path.{◌≡◌, refl, sym, ap, subst}
use mathlib.Core.Bool.{Bool, true, false, cond}
use mathlib.Core.List.{List, [], ◌∷◌}
use native.Mathlib.Numerals.{add-one}
use native.Mathlib.Omega.{arith}
use native.Mathlib.Decide.{dec_le}
use borrow.Author.Tests.{ltb-true, ltb-false, eqb-true, eqb-false}
use lib.Dec.{ltb, eqb}
use lib.ListN.{length, drop, get_or, drop_of_length-le, length-drop}
use lib.Seq.{drop-cons}
use Rattle.rules.specs.Basics.{is_some}
use Rattle.rules.specs.Parsers.{Parser, bad, ok, pure, guard, ◌>>=◌, ◌>>◌, ◌or◌, without, front, after, one, many, byte, literal, finish, sized, whole}
use Rattle.rules.proofs.Tests.{clash}
use Rattle.text.specs.Reads.{Good, Reads, upto, none}

-- the text from a position on: the byte there, and what follows it
pub here : (s : List ℕ) (at : ℕ) → at < length s → drop at s ≡ get_or s at 0 ∷ drop (at + 1) s
here s at h = rw (add-one, drop-cons s at 0)

-- what an answer says once its case is known
pub good : {A : Type 0} {k e : ℕ} {P : Parser A} {s : List ℕ} {at : ℕ} → Reads k P s at (Some e) → Good k P s at e
good (upto e g) = g

pub none_of : {A : Type 0} {k : ℕ} (P : Parser A) {s : List ℕ} {at : ℕ} → Reads k P s at None → P (drop at s) ≡ bad
none_of P (none h) = h

pub answer : {A : Type 0} {k : ℕ} {P : Parser A} {s : List ℕ} {at : ℕ} {r x : Option ℕ} → r ≡ x → Reads k P s at r → Reads k P s at x
answer {k = k} {P = P} {s} {at} q h = subst (λ (y : Option ℕ). Reads k P s at y) q h

pub found : {A : Type 0} {k e : ℕ} {P : Parser A} {s : List ℕ} {at : ℕ} {r : Option ℕ} → r ≡ Some e → Reads k P s at r → Good k P s at e
found q h = good (answer q h)

-- of what is read fewer bytes are asked, and of what is not read any number
pub fewer : {A : Type 0} {P : Parser A} {s : List ℕ} {at k j : ℕ} {r : Option ℕ} → j ≤ k → Reads k P s at r → Reads j P s at r
fewer l (upto e g) = upto e (record { low = omega (arith, g.low); high = g.high; value = g.value; reads = g.reads })
fewer l (none h) = none h

pub any : {A : Type 0} {P : Parser A} {s : List ℕ} {at k : ℕ} {r : Option ℕ} → Reads k P s at r → Reads 0 P s at r
any h = fewer (omega arith) h

pub not : {A : Type 0} {P : Parser A} {s : List ℕ} {at k j : ℕ} → Reads k P s at None → Reads j P s at None
not (none h) = none h

-- `pure`: the position stays
pub stay : {A : Type 0} (a : A) (s : List ℕ) (at : ℕ) → at ≤ length s → Reads 0 (pure a) s at (Some at)
stay a s at h = upto at (record { low = omega arith; high = h; value = a; reads = refl })

-- `guard`
pub guard_yes : (b : Bool) (s : List ℕ) (at : ℕ) → b ≡ true → at ≤ length s → Reads 0 (guard b) s at (Some at)
guard_yes true s at e h = stay tt s at h
guard_yes false s at e h = clash (cc)

pub guard_no : (b : Bool) (s : List ℕ) (at : ℕ) → b ≡ false → Reads 0 (guard b) s at None
guard_no true s at e = clash (cc)
guard_no false s at e = none refl

-- `>>=`
module _ {A B : Type 0} (P : Parser A) (Q : A → Parser B) {s : List ℕ} {at : ℕ} where
  -- P reads up to e, and what follows it answers r
  pub both : {k j e : ℕ} {r : Option ℕ} → Good k P s at e → ((a : A) → P (drop at s) ≡ ok a (drop e s) → Reads j (Q a) s e r) → Reads (k + j) (P >>= Q) s at r
  both {k} {j} {e} g h = go (h g.value g.reads)
    where
      go : {r : Option ℕ} → Reads j (Q g.value) s e r → Reads (k + j) (P >>= Q) s at r
      go (upto x h) = upto x (record { low = omega (arith, g.low, h.low); high = h.high; value = h.value; reads = rw g.reads h.reads })
      go (none h) = none (rw g.reads h)

  -- the same, where the bytes that P reads are enough
  pub then : {k j e : ℕ} {r : Option ℕ} → Good k P s at e → ((a : A) → P (drop at s) ≡ ok a (drop e s) → Reads j (Q a) s e r) → Reads k (P >>= Q) s at r
  then g h = fewer (omega arith) (both g h)

  pub then_not : {k : ℕ} → Reads k P s at None → Reads k (P >>= Q) s at None
  then_not (none h) = none (rw h)

-- P, and then only a value put together from what it read
pub last : {A B : Type 0} (P : Parser A) (f : A → B) {k : ℕ} {s : List ℕ} {at : ℕ} {r : Option ℕ} → Reads k P s at r → Reads k (P >>= (λ a. pure (f a))) s at r
last P f (upto e g) = upto e (record { low = g.low; high = g.high; value = f g.value; reads = rw g.reads })
last P f (none h) = none (rw h)

-- `or`
module _ {A : Type 0} (P Q : Parser A) {s : List ℕ} {at : ℕ} where
  pub first : {k e : ℕ} → Reads k P s at (Some e) → Reads k (P or Q) s at (Some e)
  first (upto e g) = upto e (record { low = g.low; high = g.high; value = g.value; reads = rw g.reads })

  pub second : {k j : ℕ} {r : Option ℕ} → Reads j P s at None → Reads k Q s at r → Reads k (P or Q) s at r
  second (none b) (upto e g) = upto e (record { low = g.low; high = g.high; value = g.value; reads = rw b g.reads })
  second (none b) (none h) = none (rw b h)

-- `without`
module _ {A : Type 0} (P : Parser A) {s : List ℕ} {at : ℕ} where
  pub without_yes : {k : ℕ} → at ≤ length s → Reads k P s at None → Reads 0 (without P) s at (Some at)
  without_yes h (none b) = upto at (record { low = omega arith; high = h; value = tt; reads = rw b })

  pub without_no : {k e : ℕ} → Reads k P s at (Some e) → Reads 0 (without P) s at None
  without_no (upto e g) = none (rw g.reads)

-- `one` and `many`
module _ (p : ℕ → Bool) (s : List ℕ) (at : ℕ) where
  pub one_yes : at < length s → p (get_or s at 0) ≡ true → Reads 1 (one p) s at (Some (at + 1))
  unfolding one
  one_yes h e = upto (at + 1) (record { low = omega arith; high = omega arith; value = get_or s at 0; reads = rw (here s at h, e) })

  pub one_no : at < length s → p (get_or s at 0) ≡ false → Reads 1 (one p) s at None
  unfolding one
  one_no h e = none (rw (here s at h, e))

  pub one_end : length s ≤ at → Reads 1 (one p) s at None
  unfolding one
  one_end h = none (rw (drop_of_length-le s h))

  -- a byte more
  pub many_more : {e : ℕ} → at < length s → p (get_or s at 0) ≡ true → Good 0 (many p) s (at + 1) e → Good 0 (many p) s at e
  unfolding many front after
  many_more {e} h q g = record {
    low = omega (arith, g.low);
    high = g.high;
    value = get_or s at 0 ∷ g.value;
    reads = let z : after p (drop (at + 1) s) ≡ drop e s = cc in let y : front p (drop (at + 1) s) ≡ g.value = cc in rw (here s at h, q, z, y);
  }

  pub many_no : at < length s → p (get_or s at 0) ≡ false → Good 0 (many p) s at at
  unfolding many front after
  many_no h q = record { low = omega arith; high = omega arith; value = []; reads = rw (here s at h, q) }

  pub many-end : length s ≤ at → at ≤ length s → Good 0 (many p) s at at
  unfolding many front after
  many-end h l = record { low = omega arith; high = l; value = []; reads = rw (drop_of_length-le s h) }

-- bytes that pass a test, one after another, up to the end of the text or to one that does not
many_run : (p : ℕ → Bool) (s : List ℕ) (n : ℕ) {at e : ℕ} → at + n ≡ e → e ≤ length s → ((i : ℕ) → at ≤ i → i < e → true ≡ p (get_or s i 0))
    → (e < length s → false ≡ p (get_or s e 0)) → Good 0 (many p) s at e
many_run p s zero {at} {e} q h f g = let z : e ≡ at = omega arith in rw z (go (dec_le (length s) at))
  where
    go : Dec (length s ≤ at) → Good 0 (many p) s at at
    go (yes k) = many-end p s at k (omega arith)
    go (no k) = many_no p s at (omega arith) (let z : e ≡ at = omega arith in rw z at (sym (g (omega arith))))
many_run p s (suc n) {at} {e} q h f g =
    many_more p s at (omega arith) (sym (f at (omega arith) (omega arith))) (many_run p s n {at = at + 1} {e = e} (omega arith) h (λ i l. f i (omega arith)) g)

pub many_upto : (p : ℕ → Bool) (s : List ℕ) {at e : ℕ} → at ≤ e → e ≤ length s → ((i : ℕ) → at ≤ i → i < e → true ≡ p (get_or s i 0))
    → (e < length s → false ≡ p (get_or s e 0)) → Good 0 (many p) s at e
many_upto p s {at} {e} l = many_run p s (e - at) (omega arith)

after_shorter : (p : ℕ → Bool) (s : List ℕ) → length (after p s) ≤ length s
unfolding after
after_shorter p [] = omega arith
after_shorter p (c ∷ s) = go (p c) (after_shorter p s)
  where
    go : (b : Bool) → length (after p s) ≤ length s → length (cond b (after p s) (c ∷ s)) ≤ suc (length s)
    go true h = omega arith
    go false h = omega arith

-- `one`, and `many` of the same: what `many` reads, if it is anything
module _ (p : ℕ → Bool) (s : List ℕ) {at e : ℕ} (g : Good 0 (many p) s at e) where
  pub some_yes : at < e → Reads 1 (one p >> many p) s at (Some e)
  unfolding many front after
  some_yes l = go (p (get_or s at 0)) refl
    where
      go : (b : Bool) → p (get_or s at 0) ≡ b → Reads 1 (one p >> many p) s at (Some e)
      go true q =
          let h : at < length s = omega (arith, g.high) in
          let r = rw (here s at h, q) at g.reads in
          let z : after p (drop (at + 1) s) ≡ drop e s = cc in
          let t : Good 0 (many p) s (at + 1) e = record { low = omega arith; high = g.high; value = front p (drop (at + 1) s); reads = rw z } in
          then (one p) (λ c. many p) (good (one_yes p s at h q)) (λ c k. upto e t)
      go false q =
          let h : at < length s = omega (arith, g.high) in
          let r = rw (here s at h, q) at g.reads in
          let z : get_or s at 0 ∷ drop (at + 1) s ≡ drop e s = cc in
          absurd (omega (arith, ap length z, length-drop (at + 1) s, length-drop e s, g.high))

  pub some_no : e ≤ at → Reads 1 (one p >> many p) s at None
  unfolding many front after
  some_no l = then_not (one p) (λ c. many p) (go (p (get_or s at 0)) refl (ltb at (length s)) refl)
    where
      go : (b : Bool) → p (get_or s at 0) ≡ b → (d : Bool) → ltb at (length s) ≡ d → Reads 1 (one p) s at None
      go b q false f = one_end p s at (ltb-false at (length s) f)
      go false q true f = one_no p s at (ltb-true at (length s) f) q
      go true q true f =
          let h : at < length s = ltb-true at (length s) f in
          let r = rw (here s at h, q) at g.reads in
          let z : after p (drop (at + 1) s) ≡ drop e s = cc in
          absurd (omega (arith, ap length z, after_shorter p (drop (at + 1) s), length-drop (at + 1) s, length-drop e s, g.low))

  pub some_answer : Reads 1 (one p >> many p) s at (then_some (ltb at e) e)
  some_answer = go (ltb at e) refl
    where
      go : (b : Bool) → ltb at e ≡ b → Reads 1 (one p >> many p) s at (then_some b e)
      go true q = some_yes (ltb-true at e q)
      go false q = some_no (ltb-false at e q)

-- `literal`: its byte i at j, and what follows it
pub literal_more : (t s : List ℕ) (i j e k : ℕ) {r : Option ℕ} → i < length t → Good 1 (byte (get_or t i 0)) s j e → Reads k (literal (drop (i + 1) t)) s e r → Reads (1 + k) (literal (drop i t)) s j r
unfolding literal
literal_more t s i j e k l g h = rw (here t i l) (both (byte (get_or t i 0)) (λ a. literal (drop (i + 1) t)) g (λ a q. h))

pub literal-not : (t s : List ℕ) (i j : ℕ) → i < length t → Reads 1 (byte (get_or t i 0)) s j None → Reads 0 (literal (drop i t)) s j None
unfolding literal
literal-not t s i j l h = rw (here t i l) (then_not (byte (get_or t i 0)) (λ a. literal (drop (i + 1) t)) (not h))

pub literal-end : (t s : List ℕ) (i j : ℕ) → length t ≤ i → j ≤ length s → Reads 0 (literal (drop i t)) s j (Some j)
unfolding literal
literal-end t s i j l h = rw (drop_of_length-le t l) (stay tt s j h)

-- `sized`: what is read with any fuel that is enough is read with the fuel that it hands over
pub enough : {A : Type 0} (p : ℕ → Parser A) {k : ℕ} {s : List ℕ} {at : ℕ} {r : Option ℕ} → ((f : ℕ) → length s ≤ at + f → Reads k (p f) s at r) → Reads k (sized p) s at r
enough p {k} {s} {at} {r} h = go (h (length (drop at s)) (rw length-drop (omega arith)))
  where
    go : {r : Option ℕ} → Reads k (p (length (drop at s))) s at r → Reads k (sized p) s at r
    go (upto e g) = upto e (record { low = g.low; high = g.high; value = g.value; reads = g.reads })
    go (none h) = none h

-- `whole`: the text is accepted if P reads it up to its end
module _ {A : Type 0} (P : Parser A) (s : List ℕ) {k : ℕ} where
  pub whole_is : {e : ℕ} → Reads k P s 0 (Some e) → eqb e (length s) ≡ is_some (whole P s)
  unfolding finish
  whole_is (upto e g) = go (eqb e (length s)) refl
    where
      go : (b : Bool) → eqb e (length s) ≡ b → b ≡ is_some (whole P s)
      go true q = let l : e ≡ length s = eqb-true e (length s) q in rw (g.reads, drop_of_length-le s {i = e} (omega arith))
      go false q = let l : e ≡ length s → ⊥ = eqb-false e (length s) q in rw (g.reads, here s e (omega (arith, g.high)))

  pub whole-not : Reads k P s 0 None → false ≡ is_some (whole P s)
  whole-not (none h) = rw h
