use Rattle.std.proofs.Common.{◌∙◌, sym, ap, arith, Bool, if◌then◌else◌}
use Rattle.reg_bank.specs.Registers.{with_bits}
use Rattle.reg_bank.proofs.Masks.{set_by_mask, clear_by_mask}
use Rattle.reg_bank.proofs.bits.with_bit.Goals as goal

pub returns-then-set : goal.returns-then-set
returns-then-set c =
    set_by_mask c.args.value c.args.bit (omega arith) c.requires
    ∙ sym (ap (λ (b : Bool). with_bits c.args.value c.args.bit 1 (if b then 1 else 0)) c.if-set.true)

pub returns-else-set : goal.returns-else-set
returns-else-set c =
    clear_by_mask c.args.value c.args.bit (omega arith) c.requires
    ∙ sym (ap (λ (b : Bool). with_bits c.args.value c.args.bit 1 (if b then 1 else 0)) c.if-set.false)
