-- Summaries of states, computed.
use Rattle.std.specs.Prelude.{◌≡◌, ◌++◌, codes, refl}
use Rattle.std.specs.Fmt.{digits}
use Rattle.clk_model.specs.Journal.{replay}
use Rattle.clk_model.specs.Summary.{summary}
use Rattle.clk_model.specs.Examples.Rows.{turns, boot}
use Rattle.clk_model.specs.Examples.OneDriver.{uart_start, ordinary_path}
use Rattle.clk_model.specs.Examples.Orphans.{late_start, adoption, astray_start, no_such_parent}

-- a gate that is held open, with its counts and those of its parent
pub ordinary_path_summary : summary (replay uart_start ordinary_path) ≡
    codes "clock                             enable prepare protect                 rate   hw\n"
    ++ codes "osc                                    1       1       0             24000000    -\n"
    ++ codes "  uart_gate                            1       1       0             24000000   on\n"
unfolding turns digits summary
ordinary_path_summary = refl

-- nothing is held after boot
pub boot_summary : summary (replay uart_start (boot 2)) ≡
    codes "clock                             enable prepare protect                 rate   hw\n"
    ++ codes "osc                                    0       0       0             24000000    -\n"
    ++ codes "  uart_gate                            0       0       0             24000000  off\n"
unfolding turns digits summary
boot_summary = refl

-- the root that was registered last stands first, and below it what was adopted
pub adoption_summary : summary (replay late_start adoption) ≡
    codes "clock                             enable prepare protect                 rate   hw\n"
    ++ codes "src                                    1       1       0             40000000    -\n"
    ++ codes "  gs                                   1       1       0             40000000   on\n"
    ++ codes "    m                                  1       1       0             40000000    -\n"
    ++ codes "      c                                1       1       0             40000000   on\n"
    ++ codes "osc                                    0       0       0             24000000    -\n"
unfolding turns digits summary
adoption_summary = refl

-- a clock without a parent stands behind the trees of the roots
pub orphan_summary : summary (replay astray_start no_such_parent) ≡
    codes "clock                             enable prepare protect                 rate   hw\n"
    ++ codes "e                                      0       0       0                    6    -\n"
    ++ codes "f                                      0       0       0                    5    -\n"
    ++ codes "m                                      0       0       0                    0    -\n"
unfolding turns digits summary
orphan_summary = refl
