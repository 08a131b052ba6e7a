use Rattle.std.proofs.Common.{◌++◌, string_bytes, map, codes, ap, sym, ◌∙◌}
use Rattle.std.specs.List.{join_with_byte}
use Rattle.apply_ast.specs.Printing.{each_behind_byte, print_levels, print_path}
use Rattle.apply_ast.proofs.WrittenLists.{joined_first}
use Rattle.apply_ast.proofs.Appended.{on_ok, then2}
use Rattle.apply_ast.proofs.step_texts.put_levels.Goals as goal

pub returns-in_ok-put : goal.returns-in_ok-put
returns-in_ok-put c =
    let old = string_bytes c.args.out.now in
    let paths = map print_path c.args.paths.now in
    on_ok c.put_more_paths.result
    (λ e. then2 old (codes "$all") (each_behind_byte 44 paths) c.in_ok-put.ensures e ∙ ap (λ t. old ++ t) (sym (joined_first 44 (codes "$all") paths))
    ∙ ap (λ b. old ++ join_with_byte 44 (print_levels b c.args.paths.now)) (sym c.if-all.true))
    c.put_more_paths.ensures
