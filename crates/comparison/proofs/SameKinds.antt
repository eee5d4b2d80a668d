-- Two kinds are the same exactly if the names that `xsi:type` has for them are.
use Prim.Native.Nat.{ℕ}
use mathlib.Core.Path.{◌≡◌, refl, sym, ◌∙◌, ap}
use mathlib.Core.Bool.{Bool, true, false}
use mathlib.Core.List.{List, [], ◌∷◌}
use mathlib.Core.Option.{Option, none, some}
use Rattle.rules.specs.Basics.{if_some, bytes, same, every, find}
use Rattle.rules.specs.Markup.{Attribute, lookup}
use Rattle.rules.specs.Types.{Kind as RulesKind, name_of, all_types, has_type, type_among}
use Rattle.rules.proofs.Tests.{clash, found, same_true, same_refl}
use Rattle.datatype.specs.Meaning.{kind_meant}
use Rattle.datatype.specs.declared.kind.Kind.{Kind}
use Rattle.datatype.specs.declared.kind.Kind.TheVariants.{Ts, IvlTs, QsuTs, QsiTs, QsdTs, Mo, Ii, Cd, En, DisplayName, Part}

-- the kind of a name
abbrev kind_named : List ℕ → Option Kind
kind_named t = find (λ k. same (name_of (kind_meant k)) t) (Ts ∷ IvlTs ∷ QsuTs ∷ QsiTs ∷ QsdTs ∷ Mo ∷ Ii ∷ Cd ∷ En ∷ DisplayName ∷ Part ∷ [])

back : (k : Kind) → kind_named (name_of (kind_meant k)) ≡ some k
unfolding find same
back Ts = refl
back IvlTs = refl
back QsuTs = refl
back QsiTs = refl
back QsdTs = refl
back Mo = refl
back Ii = refl
back Cd = refl
back En = refl
back DisplayName = refl
back Part = refl

-- the text that names the type of a record
type-text : (attrs : List Attribute) {k : RulesKind} → type_among all_types attrs ≡ some k → lookup (bytes "xsi:type") attrs ≡ some (name_of k)
unfolding every
type-text attrs {k} e = go (lookup (bytes "xsi:type") attrs) (found (has_type attrs) (λ j. true) all_types k refl e).0
  where
    go : (o : Option (List ℕ)) → if_some o (same (name_of k)) false ≡ true → o ≡ some (name_of k)
    go none z = clash (cc)
    go (some t) z = ap some (sym (same_true (name_of k) t z))

module _ (attrs : List Attribute) (j k : Kind) (e : type_among all_types attrs ≡ some (kind_meant k)) where
  pub same_kind : j ≡ k → has_type attrs (kind_meant j) ≡ true
  same_kind z = rw (type-text attrs e, z) (same_refl (name_of (kind_meant k)))

  pub other_kind : (j ≡ k → ⊥) → has_type attrs (kind_meant j) ≡ false
  other_kind d = rw (type-text attrs e) (go (same (name_of (kind_meant j)) (name_of (kind_meant k))) refl)
    where
      go : (b : Bool) → same (name_of (kind_meant j)) (name_of (kind_meant k)) ≡ b → b ≡ false
      go false y = refl
      go true y =
          let z = same_true (name_of (kind_meant j)) (name_of (kind_meant k)) y in
          let w : some j ≡ some k = sym (back j) ∙ ap kind_named z ∙ back k in
          absurd (d (cc))
