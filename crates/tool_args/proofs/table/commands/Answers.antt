use Rattle.std.proofs.Common.{codes}
use Rattle.std.proofs.lemmas.Result.{IfOk-weaker}
use Rattle.tool_args.proofs.Tables.{command_with}
use Rattle.tool_args.proofs.table.commands.Goals as goal

pub returns : goal.returns
returns c =
    let e1 = command_with _ _ _ (codes "list") c.in_ok-program.ensures c.in_ok-no_commands.ensures in
    let e2 = command_with _ _ _ (codes "check") c.in_ok-program-2.ensures e1 in
    let e3 = command_with _ _ _ (codes "check-trees") c.in_ok-program-3.ensures e2 in
    let e4 = command_with _ _ _ (codes "map") c.in_ok-program-4.ensures e3 in
    let e5 = command_with _ _ _ (codes "map-svg") c.in_ok-program-5.ensures e4 in
    let e6 = command_with _ _ _ (codes "show") c.in_ok-program-6.ensures e5 in
    let e7 = command_with _ _ _ (codes "show-json") c.in_ok-program-7.ensures e6 in
    let e8 = command_with _ _ _ (codes "trees") c.in_ok-program-8.ensures e7 in
    let e9 = command_with _ _ _ (codes "rewrite") c.in_ok-program-9.ensures e8 in
    let e10 = command_with _ _ _ (codes "rewrite4") c.in_ok-program-10.ensures e9 in
    let e11 = command_with _ _ _ (codes "rewrite-trees") c.in_ok-program-11.ensures e10 in
    let e12 = command_with _ _ _ (codes "update") c.in_ok-program-12.ensures e11 in
    IfOk-weaker c.with-13.result _ _ (λ r h. command_with _ _ _ (codes "salvage") h e12) c.with-13.ensures
