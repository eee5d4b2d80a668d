use Rattle.element.proofs.Numbers.{initial, no_initial, no_name, begins_with}
use native.Mathlib.Omega.{arith}
use Rattle.element.specs.Names.{known, number_from}
use Rattle.rules.specs.Basics.{bytes, same}
use mathlib.Core.Bool.{cond}
use mathlib.Core.Path.{refl, ◌∙◌}
use Rattle.element.proofs.name.number_of.Goals as goal

pub returns-then-name-eq0 : goal.returns-then-name-eq0
returns-then-name-eq0 c = no_name c.args.name.now c.if-name-eq0.true

pub returns-in-118 : goal.returns-in-118
unfolding number_from same
returns-in-118 c =
    c.number_if.ensures ∙ initial 118 (omega arith) (λ n. cond (same n (bytes "value")) 0 known) (λ t. refl) c.args.name.now c.in-118.is

pub returns-in-110 : goal.returns-in-110
unfolding number_from same
returns-in-110 c =
    c.number_if-in-110.ensures ∙ initial 110 (omega arith) (λ n. cond (same n (bytes "nullFlavor")) 1 known) (λ t. refl) c.args.name.now c.in-110.is

pub returns-in-120 : goal.returns-in-120
unfolding number_from same
returns-in-120 c =
    c.number_if-in-120.ensures ∙ initial 120 (omega arith) (λ n. cond (same n (bytes "xsi:type")) 2 known) (λ t. refl) c.args.name.now c.in-120.is

pub returns-in-108 : goal.returns-in-108
unfolding number_from same
returns-in-108 c =
    c.number_if-in-108.ensures ∙ initial 108 (omega arith) (λ n. cond (same n (bytes "lowClosed")) 3 known) (λ t. refl) c.args.name.now c.in-108.is

pub returns-in-104 : goal.returns-in-104
unfolding number_from same
returns-in-104 c =
    c.number_if-in-104.ensures ∙ initial 104 (omega arith) (λ n. cond (same n (bytes "highClosed")) 4 known) (λ t. refl) c.args.name.now c.in-104.is

pub returns-in-99 : goal.returns-in-99
returns-in-99 c = begins_with c.args.name.now c.number_of_c.ensures c.in-99.is

pub returns-in-114 : goal.returns-in-114
unfolding number_from same
returns-in-114 c =
    c.number_if-in-114.ensures ∙ initial 114 (omega arith) (λ n. cond (same n (bytes "root")) 6 known) (λ t. refl) c.args.name.now c.in-114.is

pub returns-in-101 : goal.returns-in-101
unfolding number_from same
returns-in-101 c =
    c.number_if-in-101.ensures ∙ initial 101 (omega arith) (λ n. cond (same n (bytes "extension")) 7 known) (λ t. refl) c.args.name.now c.in-101.is

pub returns-in-116 : goal.returns-in-116
unfolding number_from same
returns-in-116 c =
    c.number_if-in-116.ensures ∙ initial 116 (omega arith) (λ n. cond (same n (bytes "type")) 12 known) (λ t. refl) c.args.name.now c.in-116.is

pub returns-in-113 : goal.returns-in-113
unfolding number_from same
returns-in-113 c =
    c.number_if-in-113.ensures ∙ initial 113 (omega arith) (λ n. cond (same n (bytes "qualifier")) 13 known) (λ t. refl) c.args.name.now c.in-113.is

pub returns-in_default : goal.returns-in_default
returns-in_default c =
    no_initial c.args.name.now (omega arith) (omega arith) (omega arith) (omega arith) (omega arith) (omega arith) (omega arith) (omega arith) (omega arith) (omega arith)
