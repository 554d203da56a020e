use Rattle.samples.proofs.ExamplesClusters.{clusters}
use Rattle.samples.proofs.two_clusters.Goals as goal

pub returns : goal.returns
returns c = clusters
