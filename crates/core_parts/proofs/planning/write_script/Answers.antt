use Rattle.core_parts.proofs.planning.write_script.Goals as goal

pub returns-clause-script : goal.returns-clause-script
returns-clause-script g c = λ s told plans. record {
  steps = c.in_ok-script_of.ensures.steps s told plans;
  vetoed = c.in_ok-script_of.ensures.vetoed s told plans;
  extra = c.in_ok-script_of.ensures.extra s told plans;
  weight = c.in_ok-script_of.ensures.weight s told plans;
}
