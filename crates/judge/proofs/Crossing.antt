-- Bounds of an interval: whether they are crossed, which none are where one has no value; other kinds have none.
use mathlib.Core.Path.{◌≡◌, refl}
use mathlib.Core.Bool.{Bool, true, false}
use lib.Dec.{leb, ltb}
use Rattle.rules.specs.Timestamp.{Moment}
use Rattle.rules.specs.Invariants.{high, is_pushed, Endpoint, valued, is_crossed}
use Rattle.rules.specs.Types.{IVL_TS}
use Rattle.rules.proofs.Tests.{clash}
use Rattle.rules.proofs.TickOrder.{crossed}
use Rattle.datatype.specs.Meaning.{kind_meant}
use Rattle.datatype.specs.Said.{said_meant, endpoint_said}
use Rattle.datatype.specs.declared.bounds.Side.TheVariants.{Low, High}
use Rattle.timestamp.specs.declared.Moment.{Moment as Known}
use Rattle.datatype.specs.declared.said.Said.{Said}
use Rattle.datatype.specs.declared.said.Said.TheVariants.{Valued, Below, Above, Nothing}
use Rattle.datatype.specs.declared.kind.Kind.{Kind}
use Rattle.datatype.specs.declared.kind.Kind.TheVariants.{Ts, IvlTs, QsuTs, QsiTs, QsdTs, Mo, Ii, Cd, En, DisplayName, Part}

-- no value is said
abbrev Unvalued : Said → Type 0
Unvalued x = (m : Known) → x ≡ Valued m → ⊥

pub low_unvalued : (closed : Bool) (x : Said) (h : Endpoint) → Unvalued x → false ≡ is_crossed closed (endpoint_said Low (said_meant x)) h
low_unvalued closed (Valued m) h e = absurd (e m refl)
low_unvalued closed Below h e = refl
low_unvalued closed Above h e = refl
low_unvalued closed Nothing h e = refl

pub high_unvalued : (closed : Bool) (l : Moment) (x : Said) → Unvalued x → false ≡ is_crossed closed (valued l) (endpoint_said High (said_meant x))
high_unvalued closed l (Valued m) e = absurd (e m refl)
high_unvalued closed l Below e = refl
high_unvalued closed l Above e = refl
high_unvalued closed l Nothing e = refl

-- where both have one, by the law of the rules
pub crossed_pushed : (closed : Bool) (l h : Moment) → is_pushed high closed h ≡ true → leb h.next l.start ≡ is_crossed closed (valued l) (valued h)
crossed_pushed closed l h e = rw (crossed closed l h, e)

pub crossed_unpushed : (closed : Bool) (l h : Moment) → is_pushed high closed h ≡ false → ltb h.start l.start ≡ is_crossed closed (valued l) (valued h)
crossed_unpushed closed l h e = rw (crossed closed l h, e)

pub no_interval : {P : Type 0} (k : Kind) → (k ≡ IvlTs → ⊥) → kind_meant k ≡ IVL_TS → P
no_interval IvlTs h e = absurd (h refl)
no_interval Ts h e = clash (cc)
no_interval QsuTs h e = clash (cc)
no_interval QsiTs h e = clash (cc)
no_interval QsdTs h e = clash (cc)
no_interval Mo h e = clash (cc)
no_interval Ii h e = clash (cc)
no_interval Cd h e = clash (cc)
no_interval En h e = clash (cc)
no_interval DisplayName h e = clash (cc)
no_interval Part h e = clash (cc)
