-- The matrix that is lent where it stands.
use Rattle.links.specs.declared.Lent.{Lent}
use Rattle.mat.specs.declared.Su3.{Su3}
use Rattle.links.specs.Store.{matrix_at}

abbrev pub lent_of : Lent → Su3
lent_of u = matrix_at u.links.now u.place
