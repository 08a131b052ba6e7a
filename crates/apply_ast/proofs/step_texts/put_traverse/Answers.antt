use Rattle.std.proofs.Common.{◌++◌, string_bytes, map, codes, ap, ◌∙◌}
use Rattle.apply_ast.specs.Views.{item_of, hier_of}
use Rattle.apply_ast.specs.Printing.{each_behind_byte, print_item, print_path, print_hier, walk_word}
use Rattle.apply_ast.proofs.Appended.{on_ok, then6, call_third}
use Rattle.apply_ast.proofs.step_texts.put_traverse.Goals as goal

pub returns : goal.returns
returns c =
    let old = string_bytes c.args.out.now in
    let h = print_hier (hier_of c.args.walk.now.hier) in
    let p = print_path c.args.walk.now.path in
    let o = walk_word c.args.walk.now.post in
    on_ok c.put-3.result
    (λ e. then6 old (codes "traverse(") (h ++ (codes "," ++ p)) (codes ",") o (each_behind_byte 44 (map print_item (map item_of c.as_slice.result.now))) (codes ")")
    c.in_ok-put.ensures c.in_ok-put_hier_and_path.ensures c.in_ok-put-2.ensures c.in_ok-put_walk_word.ensures c.in_ok-put_more_items.ensures e
    ∙ ap (λ l. old ++ (codes "traverse(" ++ ((h ++ (codes "," ++ p)) ++ (codes "," ++ (o ++ (each_behind_byte 44 (map print_item (map item_of l)) ++ codes ")")))))) c.as_slice.ensures.value
    ∙ ap (λ t. old ++ t) (call_third (codes "traverse") h p o (map print_item (map item_of c.args.walk.now.items))))
    c.put-3.ensures
