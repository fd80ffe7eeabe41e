use Rattle.std.proofs.Common.{ap, ◌∙◌}
use Rattle.kind_math.specs.Tables.{table_rate}
use Rattle.kind_math.proofs.TableLaws.{setting_is_value, setting_gives_back}
use Rattle.kind_math.proofs.tables.table_setting.Goals as goal

pub returns-clause-value : goal.returns-clause-value
returns-clause-value c =
    c.value_of.ensures ∙ setting_is_value c.args.parent c.args.rate c.planned_divisor.result c.args.table.now c.planned_divisor.ensures

pub returns-clause-gives_back : goal.returns-clause-gives_back
returns-clause-gives_back c div among gives =
    ap (λ v. table_rate c.args.parent v c.args.table.now) (returns-clause-value c)
    ∙ setting_gives_back c.args.parent c.args.rate div c.args.table.now c.requires among gives
