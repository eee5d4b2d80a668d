-- `form::name::along` meets its contract.
use Rattle.form.proofs.Wording.{along_space, along_past, along_other, along_more}
use Rattle.form.proofs.name.along.Goals as goal

pub returns-then-c-eq32 : goal.returns-then-c-eq32
returns-then-c-eq32 c = along_space c.args.w.now c.args.k c.args.c c.if-c-eq32.true

pub returns-then-w-k : goal.returns-then-w-k
returns-then-w-k c = along_past c.args.w.now c.args.k c.args.c c.if-c-eq32.false c.if-w-k.true

pub returns-then-w-k-2 : goal.returns-then-w-k-2
returns-then-w-k-2 c = along_other c.args.w.now c.args.k c.args.c c.if-c-eq32.false c.if-w-k.false c.if-w-k-2.true

pub returns : goal.returns
returns c = along_more c.args.w.now c.args.k c.args.c c.if-c-eq32.false c.if-w-k.false c.if-w-k-2.false
