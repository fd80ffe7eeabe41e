use Rattle.std.proofs.Common.{refl}
use Rattle.clk_base.specs.declared.event.Event.TheVariants.{Enable}
use Rattle.clk_base.specs.declared.event.Turn.TheVariants.{Done}
use Rattle.clk_framework.proofs.Turning.{answers}
use Rattle.clk_framework.proofs.framework.Framework.enable.Goals as goal

pub returns : goal.returns
returns g c =
    answers c.args.driver.now c.take-guard.new.pass c.give_entry.new.pass c.take-guard.result.value.value c.enable-reply.new.self (Enable c.args.handle.number) (Done c.enable-reply.result) record {
      idle = c.requires.ready.turn;
      took = c.take-guard.ensures.turn;
      continues = c.take-guard.ensures.seen;
      knows = c.take-guard.ensures.fixed;
      lent = c.deref_mut.result.now;
      same = c.deref_mut.ensures.value;
      lent_opened = c.enable-reply.ensures.opened;
      number = c.number-number.result;
      own_number = c.number-number.ensures.number;
      lent_appends = c.enable-reply.ensures.entry;
      lawful = c.enable-reply.ensures.lawful;
      gave = c.give_entry.ensures.added;
      own_ = c.give_entry.ensures.mine;
      numbers = c.take-guard.ensures.numbers;
    } refl
