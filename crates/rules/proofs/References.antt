-- The bytes between a value's quotes are those decoded, or both hold one of the bytes that references stand for.
use Prim.Native.Nat.{ℕ, zero, suc, ◌+◌, ◌-◌, ◌≤◌}
use Prim.Native.String.{String}
use mathlib.Core.Path.{◌≡◌, refl, sym, ◌∙◌, ap, ap₂}
use mathlib.Core.Logic.{◌⊎◌, inl, inr}
use mathlib.Core.Bool.{Bool, true, ◌||◌, or-true, or_assoc}
use mathlib.Core.List.{List, [], ◌∷◌, ◌++◌, append_assoc}
use native.Mathlib.Omega.{arith}
use lib.Dec.{eqb}
use lib.ListN.{length, take, drop, length-append, length-drop}
use lib.Seq.{drop-drop, take_at}
use Rattle.rules.specs.Basics.{exists, bytes}
use Rattle.rules.specs.Parsers.{Parsed, bad, ok, next, else, pure, opposite, one, byte, literal}
use Rattle.rules.specs.Markup.{noncharacter, is_plain, reference, char, text, value}
use Rattle.rules.proofs.Tests.{clash}
use Rattle.rules.proofs.Parsers.{next-ok, map-ok, cons_ok, else-ok, one_ok, byte-ok}

-- `&`, `<`, `>`, `"` and `'`
abbrev pub is_referenced : ℕ → Bool
is_referenced c = eqb c 38 || eqb c 60 || eqb c 62 || eqb c 34 || eqb c 39

-- raw bytes are the decoded ones, or both hold one that a reference stands for
pub data Raw (raw cs : List ℕ) : Type 0 where
  plain : raw ≡ cs → Raw raw cs
  referred : exists is_referenced raw ≡ true → exists is_referenced cs ≡ true → Raw raw cs

-- of raw and decoded bytes a test says the same, if it says the same of every text with such a byte
pub raw_agrees : {A : Type 0} (P : List ℕ → A) {no : A} → ((t : List ℕ) → exists is_referenced t ≡ true → P t ≡ no)
    → {raw cs : List ℕ} → Raw raw cs → P raw ≡ P cs
raw_agrees P h (plain e) = ap P e
raw_agrees P h {raw} {cs} (referred f g) = h raw f ∙ sym (h cs g)

exists-append : (p : ℕ → Bool) (a b : List ℕ) → exists p (a ++ b) ≡ (exists p a || exists p b)
unfolding exists
exists-append p [] b = refl
exists-append p (c ∷ a) b = rw (exists-append p a b) (sym (or_assoc (p c) (exists p a) (exists p b)))

raw_append : {a b x y : List ℕ} → Raw a x → Raw b y → Raw (a ++ b) (x ++ y)
raw_append (plain e) (plain f) = plain (ap₂ ◌++◌ e f)
raw_append {a} {b} {x} {y} (plain e) (referred f g) = referred (rw (exists-append, f, or-true)) (rw (exists-append, g, or-true))
raw_append (referred f g) d = referred (rw (exists-append, f)) (rw (exists-append, g))

-- the bytes decoded from s up to r
record Decoded (s cs r : List ℕ) : Type 0 where
  raw : List ℕ
  stands : s ≡ raw ++ r
  is : Raw raw cs

literal-ok : (w s : List ℕ) {u : Unit {0}} {r : List ℕ} → literal w s ≡ ok u r → s ≡ w ++ r
unfolding literal
literal-ok [] s e = cc
literal-ok (b ∷ w) s e = next-ok (byte b s) _ e λ c t f g. byte-ok b s f ∙ ap (λ x. b ∷ x) (literal-ok w t g)

reference-ok : (s : List ℕ) {c : ℕ} {r : List ℕ} → reference s ≡ ok c r → Decoded s (c ∷ []) r
unfolding reference exists
reference-ok s {c} {r} = or "&amp;" 38 refl refl (or "&lt;" 60 refl refl (or "&gt;" 62 refl refl (or "&quot;" 34 refl refl (is "&apos;" 39 refl refl))))
  where
    is : (w : String) (b : ℕ) → exists is_referenced (bytes w) ≡ true → exists is_referenced (b ∷ []) ≡ true → next (literal (bytes w) s) (λ u. pure b) ≡ ok c r → Decoded s (c ∷ []) r
    is w b h k e =
        let (u, f, z) = map-ok (literal (bytes w) s) (λ u. b) e in
        record { raw = bytes w; stands = literal-ok (bytes w) s f; is = referred h (rw z at k) }

    or : (w : String) (b : ℕ) {y : Parsed ℕ} → exists is_referenced (bytes w) ≡ true → exists is_referenced (b ∷ []) ≡ true → (y ≡ ok c r → Decoded s (c ∷ []) r)
        → else (next (literal (bytes w) s) (λ u. pure b)) y ≡ ok c r → Decoded s (c ∷ []) r
    or w b {y} h k other e = go (else-ok _ _ e)
      where
        go : (next (literal (bytes w) s) (λ u. pure b) ≡ ok c r) ⊎ (y ≡ ok c r) → Decoded s (c ∷ []) r
        go (inl e) = is w b h k e
        go (inr e) = other e

char-ok : (s : List ℕ) {c : ℕ} {r : List ℕ} → char s ≡ ok c r → Decoded s (c ∷ []) r
unfolding char
char-ok s {c} {r} e = go (noncharacter s) e
  where
    either : (one is_plain s ≡ ok c r) ⊎ (reference s ≡ ok c r) → Decoded s (c ∷ []) r
    either (inl e) = record { raw = c ∷ []; stands = (one_ok is_plain s e).0; is = plain refl }
    either (inr e) = reference-ok s e

    go : (x : Parsed (Unit {0})) → next (opposite x s) (λ u s. else (one is_plain s) (reference s)) ≡ ok c r → Decoded s (c ∷ []) r
    go bad e = either (else-ok (one is_plain s) (reference s) e)
    go (ok u t) e = clash (cc)

cons_decoded : {s t : List ℕ} {c : ℕ} {cs r : List ℕ} → Decoded s (c ∷ []) t → Decoded t cs r → Decoded s (c ∷ cs) r
cons_decoded d e = record {
  raw = d.raw ++ e.raw;
  stands = d.stands ∙ ap (λ x. d.raw ++ x) e.stands ∙ sym (append_assoc d.raw e.raw _);
  is = raw_append d.is e.is;
}

text_decoded : (f : ℕ) (s : List ℕ) {cs r : List ℕ} → text f s ≡ ok cs r → Decoded s cs (34 ∷ r)
unfolding text
text_decoded zero s e = clash (cc)
text_decoded (suc f) s {cs} {r} e = elim (else-ok (next (byte 34 s) (λ b. pure [])) _ e) [
  | inl e ↦ let (b, h, z) = map-ok (byte 34 s) (λ b. []) e in rw (← z) (record { raw = []; stands = byte-ok 34 s h; is = plain refl })
  | inr e ↦ let (c, t, ds, g, h, z) = cons_ok (char s) (text f) e in rw (← z) (cons_decoded (char-ok s g) (text_decoded f t h))
]

pub value_decoded : (s : List ℕ) {cs r : List ℕ} → value s ≡ ok cs r → (raw : List ℕ) × (s ≡ 34 ∷ raw ++ 34 ∷ r) × Raw raw cs
unfolding value
value_decoded s e = next-ok (byte 34 s) _ e λ b t f g.
    let d = text_decoded (length t) t g in
    (d.raw, byte-ok 34 s f ∙ ap (λ x. 34 ∷ x) d.stands, d.is)

-- the same of a value that stands at q, up to e
pub value-between : (s : List ℕ) (q e : ℕ) {v : List ℕ} → e ≤ length s → value (drop q s) ≡ ok v (drop e s)
    → (q + 2 ≤ e) × Raw (take (e - 1 - (q + 1)) (drop (q + 1) s)) v
value-between s q e l h =
    let (raw, f, g) = value_decoded (drop q s) h in
    let n : length s - q ≡ 2 + length raw + (length s - e) = omega (arith, length-drop q s, length-drop e s, simp length-append at (ap length f)) in
    let m : length raw ≡ e - 1 - (q + 1) = omega arith in
    let d : drop (q + 1) s ≡ raw ++ 34 ∷ drop e s = sym (drop-drop 1 q s) ∙ ap (drop 1) f in
    (omega arith, rw (d, take_at raw (34 ∷ drop e s) (e - 1 - (q + 1)) m) g)
