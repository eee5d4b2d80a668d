-- The type that an element names.
use Prim.Native.Nat.{ℕ, zero, suc, ◌+◌, ◌<◌}
use mathlib.Core.Path.{◌≡◌, refl, sym, ◌∙◌}
use mathlib.Core.Bool.{Bool, true, false, cond}
use mathlib.Core.List.{List, [], ◌∷◌, ◌++◌}
use mathlib.Core.Option.{none, some}
use native.Mathlib.Omega.{arith}
use denote.Bor.{Bor}
use lib.ListN.{length, get_or, drop}
use Rattle.rules.specs.Basics.{bytes, same, find, every, exists, begins}
use Rattle.rules.specs.Parsers.{ok}
use Rattle.rules.specs.Markup.{Attribute, lookup, value}
use Rattle.rules.specs.Types.{Kind, TS, IVL_TS, QSU_TS, QSI_TS, QSD_TS, MO, II, CD, EN, DisplayName, Part, name_of, type_among}
use Rattle.rules.proofs.Tests.{same_sym, clash}
use Rattle.rules.proofs.Writing.{is_bare}
use Rattle.rules.proofs.References.{is_referenced}
use Rattle.datatype.specs.declared.kind.Kind.{Kind as CodeKind}
use Rattle.datatype.specs.Meaning.{kind_meant, Quoted, Names, kinds_of, named_among}
use Rattle.datatype.proofs.Plainly.{quoted}

pub swapped : {r : Bool} (a b : List ℕ) → r ≡ same a b → r ≡ same b a
swapped a b e = e ∙ same_sym a b

module _ (attrs : List Attribute) where
  pub type-none : lookup (bytes "xsi:type") attrs ≡ none → (kinds : List Kind) → none ≡ type_among kinds attrs
  unfolding find
  type-none h [] = refl
  type-none h (k ∷ kinds) = rw h (type-none h kinds)

  pub type-some : {v : List ℕ} → lookup (bytes "xsi:type") attrs ≡ some v → (kinds : List Kind) → named_among kinds v ≡ type_among kinds attrs
  unfolding find
  type-some h [] = refl
  type-some {v} h (k ∷ kinds) = rw (h, same_sym (name_of k) v, type-some h kinds)

-- two lists of kinds, one after the other
pub named_first : (ks ls : List Kind) (v : List ℕ) {k : Kind} → some k ≡ named_among ks v → some k ≡ named_among (ks ++ ls) v
named_first [] ls v e = clash (cc)
named_first (j ∷ ks) ls v {k} e = go (same v (name_of j)) e (named_first ks ls v)
  where
    go : (b : Bool) → some k ≡ cond b (some j) (named_among ks v) → (some k ≡ named_among ks v → some k ≡ named_among (ks ++ ls) v)
        → some k ≡ cond b (some j) (named_among (ks ++ ls) v)
    go true e rest = e
    go false e rest = rest e

pub named_second : (ks ls : List Kind) (v : List ℕ) → none ≡ named_among ks v → named_among ls v ≡ named_among (ks ++ ls) v
named_second [] ls v e = refl
named_second (j ∷ ks) ls v e = go (same v (name_of j)) e (named_second ks ls v)
  where
    go : (b : Bool) → none ≡ cond b (some j) (named_among ks v) → (none ≡ named_among ks v → named_among ls v ≡ named_among (ks ++ ls) v)
        → named_among ls v ≡ cond b (some j) (named_among (ks ++ ls) v)
    go true e rest = clash (cc)
    go false e rest = rest e

-- a name has no byte that can be written as a reference
plain-name : (k : Kind) → (every is_bare (name_of k) ≡ true) × (exists is_referenced (name_of k) ≡ false)
unfolding every exists
plain-name TS = (refl, refl)
plain-name IVL_TS = (refl, refl)
plain-name QSU_TS = (refl, refl)
plain-name QSI_TS = (refl, refl)
plain-name QSD_TS = (refl, refl)
plain-name MO = (refl, refl)
plain-name II = (refl, refl)
plain-name CD = (refl, refl)
plain-name EN = (refl, refl)
plain-name DisplayName = (refl, refl)
plain-name Part = (refl, refl)

-- the types of a table, one after another
abbrev Entry : Type 0
Entry = Bor (List ℕ) × CodeKind

named_at : (l : List Entry) (i : ℕ) (d : Entry) → i < length l → Names l → Quoted (get_or l i d).0.now (kind_meant (get_or l i d).1)
named_at [] i d h all = absurd (omega arith)
named_at (a ∷ l) zero d h all = all.0
named_at (a ∷ l) (suc i) d h all = named_at l i d (omega arith) all.1

dropped : (l : List Entry) (i : ℕ) (d : Entry) → i < length l → drop i l ≡ get_or l i d ∷ drop (i + 1) l
dropped [] i d h = absurd (omega arith)
dropped (a ∷ l) zero d h = refl
dropped (a ∷ l) (suc i) d h = let z : suc i + 1 ≡ suc (i + 1) = omega arith in rw z (dropped l i d (omega arith))

module _ (l : List Entry) (i : ℕ) (d : Entry) (h : i < length l) (x v after : List ℕ) (e : value x ≡ ok v after) (all : Names l) where
  stands : begins (get_or l i d).0.now x ≡ same v (name_of (kind_meant (get_or l i d).1))
  stands = let k = kind_meant (get_or l i d).1 in rw (named_at l i d h all) (quoted (name_of k) (plain-name k).0 (plain-name k).1 x v after e)

  pub named_here : begins (get_or l i d).0.now x ≡ true → named_among (kinds_of (drop i l)) v ≡ some (kind_meant (get_or l i d).1)
  named_here b = rw (dropped l i d h, sym stands ∙ b)

  pub named_past : begins (get_or l i d).0.now x ≡ false → named_among (kinds_of (drop i l)) v ≡ named_among (kinds_of (drop (i + 1) l)) v
  named_past b = rw (dropped l i d h, sym stands ∙ b)
