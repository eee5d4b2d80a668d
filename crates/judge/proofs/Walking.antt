-- The children of an element judged one after another, by their tags.
use Prim.Native.Nat.{ℕ, ◌≤◌}
use mathlib.Core.Path.{◌≡◌, refl, sym, ◌∙◌, ap, subst}
use mathlib.Core.Bool.{Bool, true, false, not, ◌&&◌, ◌||◌}
use mathlib.Core.List.{List}
use mathlib.Core.Logic.{inl, inr}
use mathlib.Core.Option.{Option}
use lib.Dec.{ltb}
use lib.ListN.{length, drop}
use Rattle.rules.specs.Refusal.{Refusal, SHAPE, earlier, first_of, ◌when◌}
use Rattle.rules.specs.Markup.{Nodes, node, Element}
use Rattle.rules.specs.Invariants.{is_null, has_children}
use Rattle.rules.specs.Types.{Kind, line_of}
use Rattle.refusal.specs.Meaning.{fault_of}
use Rattle.element.specs.Tags.{Tells, TagOf}
use Rattle.element.specs.declared.tag.Tag.{Tag}
use Rattle.element.proofs.Walks.{Walked, walk_begins, walk_ends}
use Rattle.element.specs.Inside.{EndsAt}
use Rattle.judge.specs.Rows.{Judging, row_meant, beginning, row_step, Finished, ContentAs}
use Rattle.judge.specs.declared.row.Content.{Content}
use Rattle.judge.specs.declared.row.Row.{Row}
use Rattle.judge.proofs.Rowing.{row_after, row_faults, row_any, hides_more}
use Rattle.judge.proofs.Bounds.{bounds-said}

-- a row whose children are all judged
pub judged-row : {s : List ℕ} (shift : ℕ) (k : Kind) (v : Element) (after : List ℕ) (row : Row) (e : ℕ) (r : Content) → Finished shift k v row e r
    → row_meant row ≡ row_after shift k beginning v.kids → after ≡ drop e s → ContentAs s shift k v after r
judged-row {s} shift k v after row e r f q z = record {
  fault = f.fault ∙ ap (λ (j : Judging). earlier j.fault (missing j)) q ∙ row_faults shift k (is_null v.attrs) beginning v.kids;
  any = f.any ∙ ap (λ (j : Judging). j.any) q ∙ row_any shift k beginning v.kids ∙ or-false (has_children v.kids);
  ends = rw f.end z;
  broken = elim (bounds-said shift k v.kids) [
    | inl h ↦ inl (rw f.fault (hides_more (fault_of row.fault) _ (rw (ap (λ (j : Judging). j.fault) q) h)))
    | inr h ↦ inr (λ w. let (a, b) = h w in f.broken w (ap (λ (j : Judging). j.low) q ∙ a, ap (λ (j : Judging). j.high) q ∙ b))
  ];
}
  where
    missing : Judging → Option Refusal
    missing j = first_of (SHAPE when (not (is_null v.attrs) && ltb j.stage (line_of k).enough))

    or-false : (b : Bool) → (b || false) ≡ b
    or-false true = refl
    or-false false = refl

-- a row as far as it is judged: the children that are left bring it to what all of them do
abbrev pub Judges : (shift : ℕ) → Kind → Row → (all left : Nodes) → Type 0
Judges shift k row all left = row_after shift k (row_meant row) left ≡ row_after shift k beginning all

-- one child more
pub judged-next : (shift : ℕ) (k : Kind) (row more : Row) (all l : Nodes) (v : Element) → row_meant more ≡ row_step shift k (row_meant row) v → Judges shift k row all (node v.name v.attrs v.kids l) → Judges shift k more all l
unfolding row_after
judged-next shift k row more all l v m w = rw m w

module _ {s : List ℕ} {t : Tag} {depth : ℕ} (shift : ℕ) (k : Kind) (row : Row) where
  pub judged-first : t.end ≤ length s → row_meant row ≡ beginning → row.end ≡ t.end → Walked s t depth row.end (Judges shift k row)
  judged-first h e f = subst (λ (n : ℕ). Walked s t depth n (Judges shift k row)) (sym f) (walk_begins h (λ all. ap (λ (j : Judging). row_after shift k j all) e))

  -- no child is left
  pub judged_last : {e : ℕ} → EndsAt s t.full t.name t.past depth row.end e → Walked s t depth row.end (Judges shift k row) → (r : Content) → ((v : Element) → Tells s v.attrs t.places → Finished shift k v row e r)
      → (v : Element) (after : List ℕ) → TagOf s depth v after t → ContentAs s shift k v after r
  unfolding row_after
  judged_last {e} n w r f v after x = let (q, z) = walk_ends n w v after x in judged-row shift k v after row e r (f v x.tells) q z
