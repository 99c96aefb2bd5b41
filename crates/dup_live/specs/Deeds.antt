-- What a list of deeds has published.
use Rattle.std.specs.Prelude.{List, [], ◌∷◌, ◌++◌}
use Rattle.dup_model.specs.Editions.{Bundle}
use Rattle.dup_live.specs.declared.deed.Deed.{Deed}
use Rattle.dup_live.specs.declared.deed.Deed.TheVariants.{Try, Done}

-- the records that were published, and those with the record that was tried last, from c and d on
abbrev pub told_from : List Bundle → List Bundle → List Deed → List Bundle × List Bundle
told_from c d [] = (c, d)
told_from c d (Try r ∷ es) = told_from c (c ++ r ∷ []) es
told_from c d (Done ∷ es) = told_from d d es

abbrev pub published : List Deed → List Bundle
published es = (told_from [] [] es).0

-- with the record that was tried last
abbrev pub tried : List Deed → List Bundle
tried es = (told_from [] [] es).1
