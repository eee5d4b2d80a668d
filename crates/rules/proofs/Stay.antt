-- The tree that a printed record is read as; written out, it is the record.
use Prim.Native.Nat.{ℕ}
use mathlib.Core.Path.{◌≡◌, refl, ◌∙◌, ap, ap₂}
use mathlib.Core.List.{List, [], ◌∷◌, ◌++◌, flat_map, append_assoc, append-nil}
use Rattle.rules.specs.Basics.{bytes}
use Rattle.rules.specs.Markup.{Attribute, Nodes, end, node, Element}
use Rattle.rules.specs.Invariants.{Side, low, high}
use Rattle.rules.specs.Types.{Kind, IVL_TS, QSU_TS, name_of}
use Rattle.rules.specs.Sets.{Bound, unbounded, open_at, closed_at, Interval, ◌upto◌}
use Rattle.rules.specs.Dates.{timestamp_text}
use Rattle.rules.specs.Printing.{flag_text, bound_text, term_text, written, record_text}
use Rattle.rules.proofs.Writing.{attribute_text, element_text, nodes_text, write}

infix 70 ◌is◌
abbrev pub ◌is◌ : List ℕ → List ℕ → Attribute
n is v = record { name = n; value = v }

abbrev pub of_type : Kind → Attribute
of_type k = bytes "xsi:type" is name_of k

-- the flag of a bound; an unbounded end has none
abbrev pub flag_of : Side → Bound → List Attribute
flag_of side unbounded = []
flag_of side (open_at t) = side.flag is bytes "false" ∷ []
flag_of side (closed_at t) = side.flag is bytes "true" ∷ []

-- a bound as a full timestamp, or as NINF or PINF
abbrev pub said_of : Side → Bound → Attribute
said_of side unbounded = bytes "nullFlavor" is side.infinity
said_of side (open_at t) = bytes "value" is timestamp_text t
said_of side (closed_at t) = bytes "value" is timestamp_text t

abbrev pub bound_node : Side → Bound → (rest : Nodes) → Nodes
bound_node side b rest = node side.child (said_of side b ∷ []) end rest

-- type, then flags
abbrev pub term_attributes : Interval → List Attribute
term_attributes s = of_type IVL_TS ∷ (flag_of low s.low ++ flag_of high s.high)

abbrev pub bound_nodes : Interval → Nodes
bound_nodes s = bound_node low s.low (bound_node high s.high end)

unfoldable pub term_nodes : List Interval → Nodes
term_nodes [] = end
term_nodes (s ∷ ss) = node (bytes "term") (term_attributes s) (bound_nodes s) (term_nodes ss)

abbrev pub stay_of : List Interval → Element
stay_of ss = record { name = bytes "stay"; attrs = of_type QSU_TS ∷ []; kids = term_nodes (written ss) }

-- what follows a value
quoted : (m v : List ℕ) → m ++ (bytes " value=\"" ++ v ++ bytes "\"" ++ []) ++ bytes "/>" ≡ m ++ bytes " value=\"" ++ v ++ bytes "\"/>"
quoted m v = go m (bytes " value=\"") v (bytes "\"") (bytes "/>")
  where
    go : (m p v q r : List ℕ) → m ++ (p ++ v ++ q ++ []) ++ r ≡ (m ++ p) ++ v ++ (q ++ r)
    go m p v q r = simp (append_assoc, append-nil)

low_bound : (b : Bound) → element_text low.child (said_of low b ∷ []) end [] ≡ bound_text low b
unfolding bound_text flat_map
low_bound unbounded = refl
low_bound (open_at t) = quoted (bytes "<low") (timestamp_text t)
low_bound (closed_at t) = quoted (bytes "<low") (timestamp_text t)

high_bound : (b : Bound) → element_text high.child (said_of high b ∷ []) end [] ≡ bound_text high b
unfolding bound_text flat_map
high_bound unbounded = refl
high_bound (open_at t) = quoted (bytes "<high") (timestamp_text t)
high_bound (closed_at t) = quoted (bytes "<high") (timestamp_text t)

bounds-text : (s : Interval) → nodes_text (bound_nodes s) ≡ bound_text low s.low ++ bound_text high s.high
unfolding nodes_text
bounds-text s = ap₂ ◌++◌ (low_bound s.low) (append-nil _ ∙ high_bound s.high)

flags-text : (l h : Bound) → flat_map attribute_text (term_attributes (l upto h)) ≡ bytes " xsi:type=\"IVL_TS\"" ++ (flag_text low l ++ flag_text high h)
unfolding flat_map flag_text
flags-text unbounded unbounded = refl
flags-text unbounded (open_at t) = refl
flags-text unbounded (closed_at t) = refl
flags-text (open_at s) unbounded = refl
flags-text (open_at s) (open_at t) = refl
flags-text (open_at s) (closed_at t) = refl
flags-text (closed_at s) unbounded = refl
flags-text (closed_at s) (open_at t) = refl
flags-text (closed_at s) (closed_at t) = refl

assembled : (a b c d : List ℕ) → 60 ∷ bytes "term" ++ (bytes " xsi:type=\"IVL_TS\"" ++ (a ++ b)) ++ (62 ∷ (c ++ d) ++ bytes "</" ++ bytes "term" ++ 62 ∷ [])
    ≡ bytes "<term xsi:type=\"IVL_TS\"" ++ a ++ b ++ bytes ">" ++ c ++ d ++ bytes "</term>"
assembled a b c d = simp append_assoc

term_text_lem : (s : Interval) → element_text (bytes "term") (term_attributes s) (bound_nodes s) (nodes_text (bound_nodes s)) ≡ term_text s
unfolding term_text
term_text_lem s = rw (bounds-text s, flags-text s.low s.high) (assembled (flag_text low s.low) (flag_text high s.high) (bound_text low s.low) (bound_text high s.high))

terms_text : (ss : List Interval) → nodes_text (term_nodes ss) ≡ flat_map term_text ss
unfolding nodes_text term_nodes flat_map
terms_text [] = refl
terms_text (s ∷ ss) = ap₂ ◌++◌ (term_text_lem s) (terms_text ss)

around : (inner : List ℕ) → 60 ∷ bytes "stay" ++ bytes " xsi:type=\"QSU_TS\"" ++ (62 ∷ inner ++ bytes "</" ++ bytes "stay" ++ 62 ∷ [])
    ≡ bytes "<stay xsi:type=\"QSU_TS\">" ++ inner ++ bytes "</stay>"
around inner = simp append_assoc

pub record_written : (ss : List Interval) → write (stay_of ss) ≡ record_text ss
unfolding record_text term_nodes flat_map
record_written [] = around (nodes_text (term_nodes (written []))) ∙ ap (λ inner. bytes "<stay xsi:type=\"QSU_TS\">" ++ inner ++ bytes "</stay>") (terms_text (written []))
record_written (s ∷ ss) = around (nodes_text (term_nodes (s ∷ ss))) ∙ ap (λ inner. bytes "<stay xsi:type=\"QSU_TS\">" ++ inner ++ bytes "</stay>") (terms_text (s ∷ ss))
