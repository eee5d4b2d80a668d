-- Attributes read up to a position, each name once, and what is known of their names.
use Rattle.std.specs.Prelude.{Option, Some, None}
use Prim.Native.Nat.{ℕ, ◌-◌, ◌≤◌}
use mathlib.Core.Path.{◌≡◌}
use mathlib.Core.Bool.{true, false}
use mathlib.Core.List.{List, [], ◌∷◌, ◌++◌}
use lib.ListN.{length, take, drop}
use Rattle.rules.specs.Markup.{some_space}
use Rattle.text.specs.Reads.{Good}
use Rattle.markup.specs.Attributes.{AttributeTo, Stops, ReadsDistinct}
use Rattle.markup.specs.Marks.{is_among, NamesFrom, no_names}
use Rattle.markup.proofs.Before.{names_more}
use Rattle.markup.proofs.Apart.{Known, known-none, known_more, ReadsApart, apart_start, apart_end, apart_more, apart_again}

-- an answer on the attributes from i on, apart from the names before, is an answer from the start on
pub record Begun (P : List ℕ → Type 0) (s : List ℕ) (at i : ℕ) : Type 0 where
  pub high : i ≤ length s
  pub names : List (List ℕ)
  pub from : NamesFrom s at i names
  pub known : Known P names
  pub on : (r : Option ℕ) → ReadsApart names s i r → ReadsDistinct s at r

pub begun-start : (P : List ℕ → Type 0) {s : List ℕ} {at : ℕ} → at ≤ length s → Begun P s at at
begun-start P l = record { high = l; names = []; from = no_names; known = known-none P; on = apart_start }

pub begun-end : {P : List ℕ → Type 0} {s : List ℕ} {at i : ℕ} → Begun P s at i → Stops s i → ReadsDistinct s at (Some i)
begun-end b h = b.on _ (apart_end b.names b.high h)

-- an attribute more
module _ {P : List ℕ → Type 0} {s : List ℕ} {at i j n q e : ℕ} (b : Begun P s at i) (g : Good 1 some_space s i j) (a : AttributeTo s j n q e) where
  pub begun_more : (Q : List ℕ → Type 0) → is_among (take (n - j) (drop j s)) b.names ≡ false → ((m : List ℕ) → P m → Q m) → Q (take (n - j) (drop j s)) → Begun Q s at e
  begun_more Q d f x = record {
    high = a.high;
    names = b.names ++ (take (n - j) (drop j s) ∷ []);
    from = names_more g a b.from;
    known = known_more P Q (take (n - j) (drop j s)) b.names b.known f x;
    on = λ r h. b.on r (apart_more g a b.names d r h);
  }

  pub begun_again : is_among (take (n - j) (drop j s)) b.names ≡ true → ReadsDistinct s at None
  begun_again d = b.on _ (apart_again g a b.names d)
