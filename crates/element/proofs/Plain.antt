-- An attribute whose name has `="` right after it: the name is read up to there, and its value stands at the quote.
use Rattle.std.specs.Prelude.{Option, Some, None}
use Rattle.std.specs.Bool.{then_some}
use Prim.Native.Nat.{ℕ, ◌+◌, ◌-◌, ◌<◌}
use mathlib.Core.Path.{◌≡◌, refl, sym, ◌∙◌, ap}
use mathlib.Core.Bool.{Bool, true, false, cond}
use mathlib.Core.List.{List, [], ◌∷◌, ◌++◌, append_assoc}
use native.Mathlib.Omega.{arith}
use lib.ListN.{length, drop}
use lib.Seq.{drop-drop, drop-append_seam, take_at}
use Rattle.rules.specs.Basics.{bytes, every, begins}
use Rattle.rules.specs.Parsers.{bad}
use Rattle.rules.specs.Markup.{is_space, space, name}
use Rattle.rules.proofs.Tests.{clash, passes, passed}
use Rattle.rules.proofs.Beginnings.{many_read}
use Rattle.rules.proofs.Writing.{is_name, name-read}
use Rattle.text.specs.Reads.{Good}
use Rattle.text.proofs.Sameness.{begins-append}
use Rattle.element.specs.Names.{known, name_at, number_of}
use Rattle.element.specs.Plain.{PlainIf, PlainAt, plain_is, not_plain, StartAt}
use Rattle.element.specs.declared.name.Plain.{Plain}
use Rattle.element.specs.declared.tag.Start.{Start}
use Rattle.element.proofs.Numbers.{numbered}
use Rattle.element.proofs.Quotes.{after-byte, value_here}

-- what is said by whether a known name and `="` stand there
pub plain_if : {s : List ℕ} {at : ℕ} {r : Option Plain} (k : ℕ) → k < known → PlainIf s at (name_at k ++ bytes "=\"") k (length (name_at k)) r → PlainAt s at r
plain_if {s} {at} k h e = rw e (go (begins (name_at k ++ bytes "=\"") (drop at s)) refl)
  where
    go : (b : Bool) → begins (name_at k ++ bytes "=\"") (drop at s) ≡ b → PlainAt s at (then_some b (record { number = k; size = length (name_at k) }))
    go true f = plain_is _ h f refl
    go false f = not_plain

-- each known name is a name by the markup rules
known-name : (k : ℕ) → k < known → is_name (name_at k) ≡ true
unfolding passes is_name every
known-name k h = passed known (λ k. is_name (name_at k)) k refl h

name-size : (n : List ℕ) → is_name n ≡ true → 0 < length n
unfolding is_name
name-size [] h = clash (cc)
name-size (c ∷ n) h = omega arith

-- no white space stands at a position
no_space : (s : List ℕ) (at c : ℕ) {t : List ℕ} → drop at s ≡ c ∷ t → is_space c ≡ false → at < length s → Good 0 space s at at
unfolding every
no_space s at c {t} e f h = record { low = omega arith; high = omega arith; value = []; reads = rw e (many_read is_space [] (c ∷ t) refl f) }

-- a name n, `="`, and the rest
module _ (s : List ℕ) (at : ℕ) (n rest : List ℕ) (is : drop at s ≡ n ++ 61 ∷ 34 ∷ rest) where
  past : drop (at + length n) s ≡ 61 ∷ 34 ∷ rest
  past = sym (drop-drop (length n) at s) ∙ ap (drop (length n)) is ∙ drop-append_seam n (61 ∷ 34 ∷ rest)

  starts : {k : ℕ} → is_name n ≡ true → k ≡ number_of n → StartAt s at (Some (record { number = k; name_end = at + length n; value = at + length n + 1 }))
  starts h e =
      let (f, q) = after-byte s (at + length n) past in
      let (g, r) = after-byte s (at + length n + 1) (sym q) in (
        record { low = omega (arith, name-size n h); high = omega arith; value = n; reads = rw (is, past) (name-read n (61 ∷ 34 ∷ rest) h refl) },
        value_here (no_space s (at + length n) 61 past refl f) (no_space s (at + length n + 1) 34 (sym q) refl g) g,
        e ∙ rw (is, take_at n (61 ∷ 34 ∷ rest) (at + length n - at) (omega arith)) refl,
      )

-- so it is with a known name
pub plain_start : {s : List ℕ} {at : ℕ} {p : Plain} → PlainAt s at (Some p) → StartAt s at (Some (record { number = p.number; name_end = at + p.size; value = at + p.size + 1 }))
plain_start {s} {at} {p} (plain_is _ h f z) =
    let n = name_at p.number in
    let rest = drop (length (n ++ bytes "=\"")) (drop at s) in
    let is = begins-append (n ++ bytes "=\"") (drop at s) f ∙ append_assoc n (bytes "=\"") rest in
    rw z (starts s at n rest is (known-name p.number h) (sym (numbered p.number h)))

-- no name stands at a position
pub start_not : (s : List ℕ) (at : ℕ) {r : Option Start} → r ≡ None → name (drop at s) ≡ bad → StartAt s at r
start_not s at z b = rw z b
