-- Laws of the proofs of `knn` alone.
mod KnnLaws
