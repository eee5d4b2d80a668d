-- The numbers of a table, written one after another.
use Rattle.std.proofs.Common.{◌≡◌, ℕ, ◌+◌, ◌*◌, ◌<◌, ◌≤◌, List, [], ◌∷◌, length, get_or, drop, set, sym, refl, ap, ◌∙◌, add-one, arith, length-set, drop_of_length-le, length-take-le, drop-cons, get_or-take}
use mathlib.Core.List.{flat_map}
use Rattle.rules.specs.Services.{overwrite}
use Rattle.writer.specs.Placing.{placed}
use Rattle.writer.proofs.Placing.{placed-none, placed-cons, overwrite-placed}
use Rattle.totals.specs.declared.Table.{Table}
use Rattle.totals.specs.Tables.{blank, held_rows, numbers_of, report_of}

-- the counts are written before the rows
module _ (before : List ℕ) (t : Table) (room : 35 ≤ length before) where
  abbrev counts : List ℕ
  counts = set (set (set before 0 t.added) 1 t.null) 2 t.refused

  pub counts-room : (length (set before 0 t.added) ≡ length before) × (length (set (set before 0 t.added) 1 t.null) ≡ length before) × (length counts ≡ length before)
  counts-room =
      let a = set before 0 t.added in
      let b = set a 1 t.null in
      let l : length a ≡ length before = length-set before 0 t.added in
      let m : length b ≡ length before = length-set a 1 t.null ∙ l in
      (l, m, length-set b 2 t.refused ∙ m)

  pub counts-put : placed 3 (flat_map numbers_of (held_rows t)) counts ≡ overwrite before (report_of t)
  counts-put =
      let rows = flat_map numbers_of (held_rows t) in
      let (l, m, n) = counts-room in
      sym (overwrite-placed before (report_of t)
      ∙ placed-cons 0 t.added (t.null ∷ t.refused ∷ rows) before (omega arith)
      ∙ placed-cons 1 t.null (t.refused ∷ rows) (set before 0 t.added) (omega arith)
      ∙ placed-cons 2 t.refused rows (set (set before 0 t.added) 1 t.null) (omega arith))

-- the first k rows are written, and the others are to come
pub record SoFar (before : List ℕ) (t : Table) (out : List ℕ) (k : ℕ) : Type 0 where
  pub high : k ≤ t.held
  pub same_room : length out ≡ length before
  pub rest : placed (3 + 2 * k) (flat_map numbers_of (drop k (held_rows t))) out ≡ placed 3 (flat_map numbers_of (held_rows t)) before

module _ (before : List ℕ) (t : Table) (room : 35 ≤ length before) where
  pub begin : SoFar before t before 0
  begin = record { high = omega arith; same_room = refl; rest = refl }

  module _ (out : List ℕ) (k : ℕ) (long : length t.rows ≡ 16) (few : t.held ≤ 16) (s : SoFar before t out k) where
    pub more : k < t.held → SoFar before t (set (set out (3 + 2 * k) (get_or t.rows k blank).currency) (4 + 2 * k) (get_or t.rows k blank).total) (k + 1)
    unfolding flat_map
    more h =
        let r = get_or t.rows k blank in
        let x = set out (3 + 2 * k) r.currency in
        let l : length x ≡ length out = length-set out (3 + 2 * k) r.currency in
        let n = length-take-le t.held t.rows (omega arith) in
        let e : drop k (held_rows t) ≡ r ∷ drop (k + 1) (held_rows t) =
        drop-cons (held_rows t) k blank (omega arith) ∙ rw (get_or-take t.held t.rows k blank h, add-one) refl in
        let rows = flat_map numbers_of (drop (k + 1) (held_rows t)) in
        let i : 3 + 2 * k + 1 ≡ 4 + 2 * k = omega arith in
        let j : 4 + 2 * k + 1 ≡ 3 + 2 * (k + 1) = omega arith in
        record {
          high = omega arith;
          same_room = length-set x (4 + 2 * k) r.total ∙ l ∙ s.same_room;
          rest = sym (sym s.rest ∙ ap (λ q. placed (3 + 2 * k) (flat_map numbers_of q) out) e
              ∙ placed-cons (3 + 2 * k) r.currency (r.total ∷ rows) out (omega (arith, s.same_room))
              ∙ ap (λ q. placed q (r.total ∷ rows) x) i
              ∙ placed-cons (4 + 2 * k) r.total rows x (omega (arith, s.same_room, l))
              ∙ ap (λ q. placed q rows (set x (4 + 2 * k) r.total)) j);
        }

    pub all-put : t.held ≤ k → out ≡ placed 3 (flat_map numbers_of (held_rows t)) before
    unfolding flat_map
    all-put h =
        let n = length-take-le t.held t.rows (omega arith) in
        let e : drop k (held_rows t) ≡ [] = drop_of_length-le (held_rows t) {i = k} (omega arith) in
        sym (placed-none (3 + 2 * k) out) ∙ ap (λ q. placed (3 + 2 * k) (flat_map numbers_of q) out) (sym e) ∙ s.rest
