-- The sample requests, which mode gen answers over a generated world: this project's own.
use Rattle.std.specs.Prelude.{ℕ, List, [], ◌∷◌, codes}

-- the sample requests
abbrev pub sample_lines : List (List ℕ)
sample_lines =
    codes "Sales?$apply=aggregate(Amount with sum as T,$count as N)"
    ∷ codes "Sales?$apply=groupby((Customer/Country),aggregate(Amount with sum as T))"
    ∷ codes "Sales?$apply=groupby((rollup(Customer/Country,CustomerID)),aggregate($count as N))/filter(Customer/Country eq 'US')"
    ∷ codes "Sales?$apply=groupby((rolluprecursive($root/Orgs,OrgTree,OrgID)),aggregate(Amount with sum as T))/filter(OrgID eq 'O0')"
    ∷ codes "Sales?$apply=topcount(10,Amount)/aggregate(Amount with min as L)"
    ∷ []
