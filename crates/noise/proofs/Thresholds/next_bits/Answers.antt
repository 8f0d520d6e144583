-- `noise::Thresholds::next_bits` meets its contract: 2 ^ bits fits, and one less is a mask.
use Rattle.lists.proofs.Kit.{◌∙◌, ap, ℕ, arith, one-mul, bit_and, and_mask, shl_exact}
use Rattle.std.proofs.Common.{◌≡◌, ◌*◌, ◌-◌, ◌/◌, ◌%◌, ◌^◌, ◌<◌}
use Rattle.noise.proofs.Thresholds.next_bits.Goals as goal

shifted : (m : ℕ) → m < 16 → 1 * 2 ^ m % 2 ^ 16 ≡ 2 ^ m
shifted m h = shl_exact {a = 1} 1 m 16 (omega arith) (omega arith) ∙ one-mul (2 ^ m)

pub returns : goal.returns
returns g c =
    let t = c.args.w / 2 in
    ap (λ (n : ℕ). bit_and t (n - 1)) (shifted c.args.self.now.bits (omega arith)) ∙ and_mask t c.args.self.now.bits
