-- The ways through the judgement of any bytes as a record: what is found before an element is judged comes first.
use Prim.Native.Nat.{ℕ, ◌≤◌, ◌<◌}
use mathlib.Core.Path.{◌≡◌, refl}
use mathlib.Core.Bool.{Bool, true, false, not}
use mathlib.Core.List.{List, ◌∷◌}
use mathlib.Core.Option.{Option, none, some}
use borrow.Author.Tests.{lt-ltb, le-ltb}
use lib.Dec.{leb}
use lib.ListN.{length}
use Rattle.rules.specs.Basics.{is_some, if_some}
use Rattle.rules.specs.Refusal.{Refusal, TOO_LONG, NOT_UTF_8, MARKUP, rank_in, rank, earlier, first_of, answered, refused, faults_in}
use Rattle.rules.specs.Markup.{Element, document}
use Rattle.rules.specs.Judge.{top_faults}
use Rattle.rules.specs.Utf8.{is_utf8}
use Rattle.rules.proofs.Tests.{clash}
use Rattle.rules.proofs.CheckRefusals.{Pass, pass-append, pass_when, first_passes, element-or_markup}
use Rattle.judge.specs.Faults.{input_faults}

-- a refusal that stands before all others is given
pub least_first : (r : Refusal) (rs : List Refusal) → Pass (λ q. leb (rank r) (rank q)) rs → some r ≡ first_of (r ∷ rs)
unfolding first_of
least_first r rs h = go (first_of rs) (λ q e. first_passes (λ q. leb (rank r) (rank q)) h e)
  where
    go : (o : Option Refusal) → ((q : Refusal) → o ≡ some q → leb (rank r) (rank q) ≡ true) → some r ≡ earlier (some r) o
    go none k = refl
    go (some q) k = rw (k q refl)

module _ (shift : ℕ) (input : List ℕ) where
  pub input_long : 16_384 < length input → some TOO_LONG ≡ first_of (input_faults shift input)
  unfolding rank_in
  input_long h =
      rw (lt-ltb 16_384 (length input) h)
      (least_first TOO_LONG _ (pass-append after (pass_when after NOT_UTF_8 (not (is_utf8 input)) refl) (element-or_markup after refl refl refl refl refl refl refl shift input refl)))
    where
      after : Refusal → Bool
      after q = leb (rank TOO_LONG) (rank q)

  module _ (short : length input ≤ 16_384) where
    pub input_not_utf8 : is_utf8 input ≡ false → some NOT_UTF_8 ≡ first_of (input_faults shift input)
    unfolding rank_in
    input_not_utf8 e =
        rw (le-ltb 16_384 (length input) short, e)
        (least_first NOT_UTF_8 _ (element-or_markup (λ q. leb (rank NOT_UTF_8) (rank q)) refl refl refl refl refl refl refl shift input refl))

    module _ (whole : is_utf8 input ≡ true) where
      pub input_no_document : is_some (document input) ≡ false → some MARKUP ≡ first_of (input_faults shift input)
      unfolding first_of
      input_no_document e = rw (le-ltb 16_384 (length input) short, whole) (go (document input) e)
        where
          go : (o : Option Element) → is_some o ≡ false → some MARKUP ≡ first_of (faults_in (top_faults shift) (if_some o answered (refused MARKUP)))
          go none e = refl
          go (some v) e = clash (cc)

      pub input_document : {x : Option Refusal} → is_some (document input) ≡ true → ((v : Element) → document input ≡ some v → x ≡ first_of (top_faults shift v))
          → x ≡ first_of (input_faults shift input)
      input_document {x} e h = rw (le-ltb 16_384 (length input) short, whole) (go (document input) e h)
        where
          go : (o : Option Element) → is_some o ≡ true → ((v : Element) → o ≡ some v → x ≡ first_of (top_faults shift v))
              → x ≡ first_of (faults_in (top_faults shift) (if_some o answered (refused MARKUP)))
          go none e h = clash (cc)
          go (some v) e h = h v refl
