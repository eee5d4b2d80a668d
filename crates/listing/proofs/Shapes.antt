-- What an element writes, by its type.
use Prim.Native.Nat.{ℕ}
use mathlib.Core.Path.{◌≡◌, refl, sym, ap, ◌∙◌, subst}
use mathlib.Core.Bool.{Bool, true, false, cond}
use mathlib.Core.List.{List, [], ◌∷◌}
use mathlib.Core.Option.{Option, none, some}
use Rattle.std.specs.Prelude.{Option as StdOption, Some, None}
use Rattle.rules.specs.Basics.{is_some, bytes, same, find}
use Rattle.rules.specs.Markup.{Attribute, Element, lookup}
use Rattle.rules.specs.Types.{Kind as RulesKind, TS, IVL_TS, QSU_TS, QSI_TS, QSD_TS, MO, II, CD, EN, DisplayName as Display, Part as NamePart, name_of, member_types, all_types, has_type, type_among}
use Rattle.rules.specs.Sets.{union, intersection, difference}
use Rattle.rules.specs.Listing.{operation_of}
use Rattle.rules.specs.ListingPromise.{is_listed}
use Rattle.rules.proofs.Tests.{clash, same_true}
use Rattle.datatype.specs.declared.kind.Kind.{Kind}
use Rattle.datatype.specs.declared.kind.Kind.TheVariants.{Ts, IvlTs, QsuTs, QsiTs, QsdTs, Mo, Ii, Cd, En, DisplayName, Part}
use Rattle.datatype.specs.declared.record.Record.{Record}
use Rattle.datatype.specs.Meaning.{kind_meant, type_meant, named_among}
use Rattle.datatype.specs.Records.{RecordOf}
use Rattle.datatype.proofs.Naming.{type-none, type-some}
use Rattle.listing.specs.declared.set.Shape.{Shape}
use Rattle.listing.specs.declared.set.Shape.TheVariants.{Single, Members, Other}
use Rattle.listing.specs.Sets.{shape_of, WritesAs}

module _ (attrs : List Attribute) where
  -- what the type says; the others are never those of a member
  abbrev ByType : Option RulesKind → Type 0
  ByType none = (has_type attrs IVL_TS ≡ false) × (operation_of attrs ≡ none)
  ByType (some IVL_TS) = has_type attrs IVL_TS ≡ true
  ByType (some QSU_TS) = (has_type attrs IVL_TS ≡ false) × (operation_of attrs ≡ some union)
  ByType (some QSI_TS) = (has_type attrs IVL_TS ≡ false) × (operation_of attrs ≡ some intersection)
  ByType (some QSD_TS) = (has_type attrs IVL_TS ≡ false) × (operation_of attrs ≡ some difference)
  ByType (some TS) = ⊥
  ByType (some MO) = ⊥
  ByType (some II) = ⊥
  ByType (some CD) = ⊥
  ByType (some EN) = ⊥
  ByType (some Display) = ⊥
  ByType (some NamePart) = ⊥

  by_type : ByType (type_among member_types attrs)
  unfolding find
  by_type = go _ _ _ _ refl refl refl refl
    where
      go : (a b c d : Bool) → has_type attrs IVL_TS ≡ a → has_type attrs QSU_TS ≡ b → has_type attrs QSI_TS ≡ c → has_type attrs QSD_TS ≡ d
          → ByType (cond a (some IVL_TS) (cond b (some QSU_TS) (cond c (some QSI_TS) (cond d (some QSD_TS) none))))
      go true b c d f g h i = f
      go false true c d f g h i = (f, rw g)
      go false false true d f g h i = (f, rw (g, h))
      go false false false true f g h i = (f, rw (g, h, i))
      go false false false false f g h i = (f, rw (g, h, i))

  module _ {r : StdOption Kind} (told : type_meant r ≡ type_among member_types attrs) where
    pub untyped : r ≡ None → WritesAs attrs Other
    untyped z = subst ByType (sym told ∙ ap type_meant z) by_type

    pub typed : {k : Kind} → r ≡ Some k → {h : Shape} → h ≡ shape_of k → WritesAs attrs h
    typed {k} z e = subst (WritesAs attrs) (sym e) (go k (subst ByType (sym told ∙ ap type_meant z) by_type))
      where
        go : (k : Kind) → ByType (some (kind_meant k)) → WritesAs attrs (shape_of k)
        go IvlTs t = t
        go QsuTs t = t
        go QsiTs t = t
        go QsdTs t = t
        go Ts t = absurd t
        go Mo t = absurd t
        go Ii t = absurd t
        go Cd t = absurd t
        go En t = absurd t
        go DisplayName t = absurd t
        go Part t = absurd t

-- the kinds that write neither
pub other-kind : (k : Kind) → (k ≡ IvlTs → ⊥) → (k ≡ QsuTs → ⊥) → (k ≡ QsiTs → ⊥) → (k ≡ QsdTs → ⊥) → Other ≡ shape_of k
other-kind IvlTs a b c d = absurd (a refl)
other-kind QsuTs a b c d = absurd (b refl)
other-kind QsiTs a b c d = absurd (c refl)
other-kind QsdTs a b c d = absurd (d refl)
other-kind Ts a b c d = refl
other-kind Mo a b c d = refl
other-kind Ii a b c d = refl
other-kind Cd a b c d = refl
other-kind En a b c d = refl
other-kind DisplayName a b c d = refl
other-kind Part a b c d = refl

-- the name of the kind that a text names
named-is : (kinds : List RulesKind) (v : List ℕ) {k : RulesKind} → named_among kinds v ≡ some k → v ≡ name_of k
named-is [] v e = clash (cc)
named-is (j ∷ kinds) v {k} e = go (same v (name_of j)) refl (named-is kinds v) e
  where
    go : (b : Bool) → same v (name_of j) ≡ b → (named_among kinds v ≡ some k → v ≡ name_of k) → cond b (some j) (named_among kinds v) ≡ some k → v ≡ name_of k
    go true z h e = let d : j ≡ k = cc in same_true v (name_of j) z ∙ ap name_of d
    go false z h e = h e

-- which shapes are of types that can be listed
abbrev pub is_written : Shape → Bool
is_written Single = true
is_written (Members op) = true
is_written Other = false

named-listed : (k : Kind) → is_some (named_among member_types (name_of (kind_meant k))) ≡ is_written (shape_of k)
unfolding same
named-listed IvlTs = refl
named-listed QsuTs = refl
named-listed QsiTs = refl
named-listed QsdTs = refl
named-listed Ts = refl
named-listed Mo = refl
named-listed Ii = refl
named-listed Cd = refl
named-listed En = refl
named-listed DisplayName = refl
named-listed Part = refl

pub kind-listed : {s : List ℕ} {e : Element} {r : Record} → RecordOf s e r → {h : Shape} → h ≡ shape_of r.kind → is_written h ≡ is_listed e
kind-listed {s} {e} {r} x {h} z = ap is_written z ∙ go (lookup (bytes "xsi:type") e.attrs) refl
  where
    go : (o : Option (List ℕ)) → lookup (bytes "xsi:type") e.attrs ≡ o → is_written (shape_of r.kind) ≡ is_listed e
    go none y = let d = type-none e.attrs y all_types ∙ x.kind in clash (cc)
    go (some v) y =
        let d = named-is all_types v (type-some e.attrs y all_types ∙ x.kind) in
        sym (named-listed r.kind) ∙ ap (λ (t : List ℕ). is_some (named_among member_types t)) (sym d) ∙ ap is_some (type-some e.attrs y member_types)
