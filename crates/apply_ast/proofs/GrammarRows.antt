-- Two texts of the grammar, by their parts.
use Rattle.std.proofs.Common.{◌≡◌, refl, pos, true, false, [], ◌∷◌, lit≤, lit<}
use Rattle.std.specs.Prelude.{codes}
use Rattle.edm_values.specs.declared.Method.{Method}
use Rattle.apply_ast.specs.Trees.{Expr, AggItem, Pipe, Step}
use Rattle.apply_ast.specs.Grammar.{Text, bare}
use Rattle.edm_values.specs.Names.{is_name}
use Rattle.apply_ast.specs.declared.expressions.UnOp.TheVariants as UnOp
use Rattle.apply_ast.specs.declared.expressions.BinOp.TheVariants as BinOp
use Rattle.apply_ast.proofs.Joining.{parts}

-- `not` binds tighter than `eq`
not_eq : Text (Pipe.Then (Step.Filter (Expr.Binary BinOp.Eq (Expr.Unary UnOp.Not (Expr.Path' (codes "ID" ∷ []))) (Expr.Int (pos 1)))) Pipe.End) (codes "filter(not ID eq 1)")
unfolding bare Text
not_eq =
    parts (codes "filter(not ID eq 1)") []
    (parts (codes "filter") (codes "(not ID eq 1)")
    refl
    (parts (codes "(") (codes "not ID eq 1)")
    (parts (codes "(") [] refl refl refl)
    (parts (codes "not ID eq 1") (codes ")")
    (record {
      pairs = 0;
      of = parts (codes "not ID") (codes " eq 1")
          (record {
            pairs = 0;
            of = parts (codes "not ") (codes "ID")
                (parts (codes "not") (codes " ") refl (refl, refl) refl)
                (record { pairs = 0; of = (refl, refl); binds = λ _. lit≤ tt }) refl;
            binds = λ _. lit≤ tt;
          })
          (parts (codes " ") (codes "eq 1")
          (refl, refl)
          (parts (codes "eq") (codes " 1")
          refl
          (parts (codes " ") (codes "1")
          (refl, refl)
          (record {
            pairs = 0;
            of = (1, refl, (refl, ((lit< tt, (lit< tt, tt)), refl)));
            binds = λ _. lit≤ tt;
          }) refl) refl) refl) refl;
      binds = λ _. lit≤ tt;
    })
    (parts [] (codes ")") refl refl refl) refl) refl) refl)
    refl refl

-- blanks inside parentheses, and more than one where one must stand
blanks : Text (Pipe.Then (Step.Aggregate (AggItem.Standard (Expr.Path' (codes "Amount" ∷ [])) Method.Sum (codes "Total") ∷ [])) Pipe.End) (codes "aggregate( Amount with sum  as Total )")
unfolding bare Text
blanks =
    parts (codes "aggregate( Amount with sum  as Total )") []
    (parts (codes "aggregate") (codes "( Amount with sum  as Total )")
    refl
    (parts (codes "( ") (codes "Amount with sum  as Total )")
    (parts (codes "(") (codes " ") refl refl refl)
    (parts (codes "Amount with sum  as Total") (codes " )")
    (parts (codes "Amount") (codes " with sum  as Total")
    (record { pairs = 0; of = (refl, refl); binds = λ _. lit≤ tt })
    (parts (codes " ") (codes "with sum  as Total")
    (refl, refl)
    (parts (codes "with") (codes " sum  as Total")
    refl
    (parts (codes " ") (codes "sum  as Total")
    (refl, refl)
    (parts (codes "sum") (codes "  as Total")
    refl
    (parts (codes "  ") (codes "as Total")
    (refl, refl)
    (parts (codes "as") (codes " Total")
    refl
    (parts (codes " ") (codes "Total") (refl, refl) (refl, refl) refl) refl) refl) refl) refl) refl) refl) refl)
    (parts (codes " ") (codes ")") refl refl refl) refl) refl) refl)
    refl refl

-- names, and words that are none
names : (is_name (codes "_a1") ≡ true) × (is_name (codes "1a") ≡ false) × (is_name (codes "and") ≡ false) × (is_name (codes "And") ≡ true) × (is_name [] ≡ false)
names = (refl, refl, refl, refl, refl)
