use Rattle.std.proofs.Common.{◌≡◌, ℕ, ◌+◌, ◌-◌, ◌*◌, ◌<◌, ◌≤◌, arith, refl, suc, zero}
use Rattle.bounded_flow.proofs.edge.Edge.push.Goals as goal

less_far : (left whole over : ℕ) → over ≤ left * whole → left ≤ over → 1 ≤ left → left * (whole - 1) + over ≡ left * whole + (over - left)
less_far left zero over a b d = absurd (omega arith)
less_far left (suc whole) over a b d = grind arith

less_near : (left whole over : ℕ) → over ≤ left * whole → 0 < over → over < left → left * (whole - 1) + (left - over) + over ≡ left * whole
less_near left zero over a b d = absurd (omega arith)
less_near left (suc whole) over a b d = grind arith

less : (left whole over : ℕ) → over ≤ left * whole → 0 < over → (whole - 1) + 1 ≡ whole
less left zero over a b = absurd (omega arith)
less left (suc whole) over a b = omega arith

pub returns-then-self-left-2-clause-pushed : goal.returns-then-self-left-2-clause-pushed
returns-then-self-left-2-clause-pushed c =
    let e = c.args.self.now in
    let far = less_far c.args.left e.whole e.over c.requires.sound.over_whole c.if-self-left-2.true c.requires.one in
    let one = less c.args.left e.whole e.over c.requires.sound.over_whole (omega arith) in
    record { tail = refl; head = refl; rest_stays = grind (arith, far); short = λ h. grind arith; long = λ h. one; falls = λ h. grind arith; calm = λ h. grind arith }

pub returns-else-self-left-2-clause-pushed : goal.returns-else-self-left-2-clause-pushed
returns-else-self-left-2-clause-pushed c =
    let e = c.args.self.now in
    let near = less_near c.args.left e.whole e.over c.requires.sound.over_whole (omega arith) c.if-self-left-2.false in
    let one = less c.args.left e.whole e.over c.requires.sound.over_whole (omega arith) in
    record { tail = refl; head = refl; rest_stays = grind (arith, near); short = λ h. grind arith; long = λ h. one; falls = λ h. grind arith; calm = λ h. grind arith }
